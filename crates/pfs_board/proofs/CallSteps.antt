-- The steps as the calls make them.
use Rattle.std.proofs.Common.{◌≡◌, ℕ, eqb, subst, ◌+◌, ◌*◌, ◌/◌, ◌%◌, ◌<◌, ◌≤◌, ◌≢◌, true, false, eq-eqb, ne_eqb, List, [], ◌∷◌, ◌++◌, length, get_or, set, sym, refl, ap, ◌∙◌, inl, inr, arith, length-set, get_or-set_other, get_or-set_same}
use Rattle.std.specs.Prelude.{Option, Some, if◌then◌else◌, ◌==◌}
use Rattle.std.proofs.lemmas.Bool.{cond-false, cond-true}
use Rattle.pfs_lemmas.proofs.Options.{some_same}
use mathlib.Core.Logic.{dite}
use mathlib.Core.Option.{none}
use native.Mathlib.Decide.{ℕ_discrete}
use lib.Seq.{set-get_or, set-set}
use Rattle.atomic_table.specs.Seated.{TableId}
use Rattle.atomic_table.specs.Table.{State, Me, step, Allows}
use Rattle.pfs_board.specs.declared.view.Corner.{Corner}
use Rattle.pfs_board.specs.declared.view.Label.{Label}
use Rattle.pfs_board.specs.declared.view.Stage.{Stage}
use Rattle.pfs_board.specs.declared.view.Stage.TheVariants.{Idle, Reading, Holding}
use Rattle.pfs_board.specs.declared.view.View.{View}
use Rattle.pfs_board.specs.History.{lock_at, word_at}
use Rattle.pfs_board.specs.Knowledge.{newcomer, corner, is_holding, held, IsWhole, turned, sighted, sight_of, read_of, restaged, peeked, stored, version_held, found_in, stored_in, version_read, words_read, tried, looked, finished, finished_at, took, missed, published, published_at}
use Rattle.pfs_board.specs.Rule.{Ruled}
use Rattle.pfs_board.specs.SeatDemands.{IsAt, IsHeld}
use Rattle.pfs_board.specs.Plays.{IsLook, recalls, gathers, stores, finishes, publishes, frees}
use Rattle.pfs_board.specs.declared.answers.Seen.{Seen}
use Rattle.pfs_board.specs.declared.answers.Seen.TheVariants as seen
use Rattle.pfs_board.specs.declared.answers.Taken.{Taken}
use Rattle.pfs_board.specs.declared.answers.Taken.TheVariants.{Mine, Busy}
use Rattle.pfs_board.specs.ReadAnswers.{IsSeenAs}
use Rattle.pfs_board.specs.TakeAnswers.{IsTaken, IsFrom, take_looks}
use Rattle.pfs_board.proofs.ViewFacts.{held_set, one}
use Rattle.pfs_board.proofs.Looks.{recall_keeps, gather_keeps, finish_keeps, begun_at, begun_not}
use Rattle.pfs_board.proofs.WordSteps.{store_keeps}
use Rattle.pfs_board.proofs.Publications.{publish_keeps, free_keeps}
use Rattle.pfs_word.specs.declared.State.{State as RowState}
use Rattle.pfs_word.specs.declared.State.TheVariants as state
use Rattle.pfs_word.specs.Word.{number_of}

pub row_in : (z y : TableId) (start : List ℕ) (v : View) (q : ℕ) → IsAt z y start v q → lock_at q < length start
row_in z y start v q a = let i = a.inside in let w = a.words in omega arith

pub corner_in : (z y : TableId) (start : List ℕ) (v : View) (q : ℕ) → IsAt z y start v q → q < length v.rows
corner_in z y start v q a = let i = a.inside in let w = a.wide in omega arith

pub word_in : (z y : TableId) (start : List ℕ) (v : View) (q i : ℕ) → IsAt z y start v q → i < 16 → word_at q i < y.words
word_in z y start v q i a low = let h = a.inside in let w = a.wide in omega arith

pub turned_self : (v : View) (r : ℕ) → turned v r (corner v r) ≡ v
turned_self v r = ap (λ rows. record v { rows = rows }) (set-get_or v.rows r newcomer)

pub turned_again : (v : View) (r : ℕ) (c d : Corner) → turned (turned v r c) r d ≡ turned v r d
turned_again v r c d = ap (λ rows. record v { rows = rows }) (set-set v.rows r c d)

pub corner_turned : (v : View) (r : ℕ) (c : Corner) → r < length v.rows → corner (turned v r c) r ≡ c
corner_turned v r c h = get_or-set_same v.rows r c newcomer h

pub not_dirty : (st : RowState) → (st ≡ state.Dirty → ⊥) → number_of st ≢ 1
not_dirty state.Free n e = cc
not_dirty state.Dirty n e = n refl
not_dirty state.Allocated n e = cc

pub sight_corner : (v w : View) (q n : ℕ) (st : Stage) → q < length v.rows → w.rows ≡ set v.rows q (sighted st n) → corner w q ≡ sighted st n
sight_corner v w q n st h e = ap (λ rows. get_or rows q newcomer) e ∙ get_or-set_same v.rows q (sighted st n) newcomer h

pub at_next : (z z' y : TableId) (start : List ℕ) (v w : View) (q : ℕ) → IsAt z y start v q → z' ≡ z → length w.rows ≡ length v.rows → w.live ≡ v.live → IsAt z' y start w q
at_next z z' y start v w q a e l live = let b = a.wide in record { same = e ∙ a.same; words = a.words; small = a.small; wide = omega arith; live = live ∙ a.live; inside = a.inside }

pub held_look : (v : View) (q n : ℕ) (st : Stage) → q < length v.rows → is_holding (corner v q).stage ≡ false → is_holding st ≡ false → held (set v.rows q (sighted st n)) ≡ held v.rows
held_look v q n st h a b = let e = held_set v.rows q (sighted st n) h in let x : one (sighted st n) ≡ 0 = cond-false {A = ℕ} (is_holding st) 1 0 b in let y : one (corner v q) ≡ 0 = cond-false {A = ℕ} (is_holding (corner v q).stage) 1 0 a in omega arith

-- after its first look a take may go on
pub may_seize : (z z' y : TableId) (start : List ℕ) (v w : View) (q n : ℕ) → IsAt z y start v q → z' ≡ z → w ≡ tried v q n → (0 < q) × (is_holding (corner v q).stage ≡ false) × (held v.rows < v.allowance) → IsLook v n q → n % 4 ≢ 1
    → IsAt z' y start w q × ((0 < q) × (is_holding (corner w q).stage ≡ false) × (held w.rows < w.allowance)) × ((n % 4 < 3) × (n % 4 ≢ 1) × ((corner w q).fresh ≡ true) × ((corner w q).last ≡ Some n) × ((corner w q).seen ≤ n / 4))
may_seize z z' y start v w q n a e is r look clean = let h = corner_in z y start v q a in let rows : w.rows ≡ set v.rows q (sighted Idle n) = ap (λ (x : View). x.rows) is in let c = sight_corner v w q n Idle h rows in
    let same = held_look v q n Idle h r.1 refl in let held_is : held w.rows ≡ held (set v.rows q (sighted Idle n)) = ap held rows in let room = r.2 in let allow : w.allowance ≡ v.allowance = ap (λ (x : View). x.allowance) is in (
      at_next z z' y start v w q a e (ap length rows ∙ length-set v.rows q (sighted Idle n)) (ap (λ (x : View). x.live) is),
      (r.0, ap (λ (x : Corner). is_holding x.stage) c, omega arith),
      (look.state, clean, ap (λ (x : Corner). x.fresh) c, ap (λ (x : Corner). x.last) c, let l : (corner w q).seen ≡ n / 4 = ap (λ (x : Corner). x.seen) c in omega (arith, l)),
    )

-- the sights are as they were where the word was not dirty
tried_clean : (v : View) (q n : ℕ) → n % 4 ≢ 1 → tried v q n ≡ record (turned v q (sighted Idle n)) { looks = v.looks + 1 }
tried_clean v q n c = ap (λ s. record (turned v q (sighted Idle n)) { looks = v.looks + 1; sights = s }) (cond-false (eqb (n % 4) 1) (sight_of v q n n ∷ v.sights) v.sights (ne_eqb (n % 4) 1 c))

took_again : (v : View) (q n looks word : ℕ) (content : List ℕ) → record (took (record (turned v q (sighted Idle n)) { looks = v.looks + 1 }) q word content) { looks = looks } ≡ record (took v q word content) { looks = looks }
took_again v q n looks word content = ap (λ rows. record (took v q word content) { looks = looks; rows = rows }) (set-set v.rows q (sighted Idle n) (sighted (Holding (word / 4) content []) (4 * (word / 4) + 1)))

missed_again : (v : View) (q n looks first second : ℕ) → record (missed (record (turned v q (sighted Idle n)) { looks = v.looks + 1 }) q first second) { looks = looks } ≡ record (missed v q first second) { looks = looks }
missed_again v q n looks first second = ap (λ rows. record (missed v q first second) { looks = looks; rows = rows }) (set-set v.rows q (sighted Idle n) (sighted Idle second))

-- what a take answers that looked first
pub take_answer : (v : View) (q n : ℕ) (x : Taken) (w : View) → q < length v.rows → IsLook v n q → n % 4 ≢ 1 → IsTaken (tried v q n) q x w → IsTaken v q x w
take_answer v q n (Mine word content) w h look c a = let s = corner_turned v q (sighted Idle n) h in let seen : (corner (tried v q n) q).seen ≡ n / 4 = ap (λ (y : Corner). y.seen) s in let l = look.later in let b = a.2 in
    (a.0, a.1, omega arith, a.3, a.4 ∙ (ap (λ (y : View). record (took y q word content) { looks = w.looks }) (tried_clean v q n c) ∙ took_again v q n w.looks word content), λ whole k fresh last. a.5 whole n (ap (λ (y : Corner). y.fresh) s) (ap (λ (y : Corner). y.last) s) ∙ look.same whole k fresh last)
take_answer v q n (Busy first second) w h look c a = let s = corner_turned v q (sighted Idle n) h in let seen : (corner (tried v q n) q).seen ≡ n / 4 = ap (λ (y : Corner). y.seen) s in let l = look.later in let b = a.1 in let f = a.6 in
    (a.0, omega arith, a.2, a.3, a.4, a.5 ∙ (ap (λ (y : View). record (missed y q first second) { looks = w.looks }) (tried_clean v q n c) ∙ missed_again v q n w.looks first second), omega (arith, seen, l, f), a.7, a.8)

-- an answer shows two words where there were two looks that differ
pub two_looks : (first second : ℕ) → second ≢ first → ◌≡◌ {A = ℕ} (if first == second then 1 else 2) 2
two_looks first second differ = cond-false {A = ℕ} (eqb first second) 1 2 (ne_eqb first second (λ e. differ (sym e)))

-- a take that began from a word which was not dirty has looked twice
pub looked_twice : (n : ℕ) (x : Taken) → IsFrom x n → take_looks x ≡ 2
looked_twice n (Mine word content) f = refl
looked_twice n (Busy first second) f = two_looks first second (λ e. f.1 (e ∙ f.0))

-- all is as it is said but the looks, whose number is its own
any_looks : (w u : View) → w ≡ u → w ≡ record u { looks = w.looks }
any_looks w u e = e ∙ ap (λ (x : View). record u { looks = x.looks }) (sym e)

-- what the exchange answers
pub seize_hit : (v : View) (q word : ℕ) (content found : List ℕ) (w : View) → (word % 4 < 3) → word % 4 ≢ 1 → IsLook v word q → length found ≡ 16 → content ≡ found → w ≡ took v q word found → IsTaken v q (Mine word content) w
seize_hit v q word content found w s c look long same is = (s, c, look.later, ap length same ∙ long, any_looks w (took v q word content) (is ∙ ap (took v q word) (sym same)), look.same)

pub seize_miss : (v : View) (q word n : ℕ) (w : View) → word % 4 < 3 → (corner v q).seen ≤ word / 4 → (word % 4 ≡ 0 → n % 4 ≡ 2 → word / 4 < n / 4) → word % 4 ≢ 1 → (corner v q).fresh ≡ true → (corner v q).last ≡ Some word → IsLook v n q → n ≢ word → w ≡ missed v q word n → IsTaken v q (Busy word n) w
seize_miss v q word n w s seen again c fresh last look differ is = (inr (c, differ), look.later, look.after word fresh last, look.state, (λ whole. differ (look.same whole word fresh last)), any_looks w (missed v q word n) is, seen, s, again)

-- a row that was taken is held
pub took_held : (v w : View) (q old : ℕ) (found : List ℕ) → q < length v.rows → w ≡ took v q old found → IsHeld w q × (found_in (corner w q).stage ≡ found)
took_held v w q old found h is = let st : Stage = Holding (old / 4) found [] in let s : (corner w q).stage ≡ st = ap (λ (x : View). (corner x q).stage) is ∙ ap (λ (x : Corner). x.stage) (corner_turned v q (sighted st (4 * (old / 4) + 1)) h) in
    (subst (λ (x : Stage). x ≡ Holding (version_held x) (found_in x) []) (sym s) refl, ap found_in s)

module _ {K : Type 0} (means : K → List Label → Type 0) (start : List ℕ) where
  abbrev pub M : Type 0
  M = Me (Option K) View

  abbrev Rule : State (Option K) View → Type 0
  Rule = Ruled means start

  pub recall_call : (slots id : ℕ) (m m' : M) (z y : TableId) (q i : ℕ) → m' ≡ m → IsAt z y start m.0 q → IsHeld m.0 q → i < 16
      → Allows Rule slots id m' (word_at q i) (λ n. n) (recalls (step slots (word_at q i) 0 0 none) m')
  recall_call slots id m m' z y q i e a held low = subst (λ (x : M). Allows Rule slots id x (word_at q i) (λ n. n) (recalls (step slots (word_at q i) 0 0 none) x)) (sym e)
      (recall_keeps means start slots id m q i (version_held (corner m.0 q).stage) (found_in (corner m.0 q).stage) (row_in z y start m.0 q a) low a.live held)

  -- one more content word is recalled
  pub recall_next : (xs found : List ℕ) (i n : ℕ) → length xs ≡ 16 → i < 16 → n ≡ get_or found i 0 → ((j : ℕ) → j < i → get_or xs j 0 ≡ get_or found j 0) → (j : ℕ) → j < i + 1 → get_or (set xs i n) j 0 ≡ get_or found j 0
  recall_next xs found i n wide low is before j h = dite (ℕ_discrete j i) (λ e. ap (λ z. get_or (set xs i n) z 0) e ∙ (get_or-set_same xs i n 0 (omega arith) ∙ (is ∙ ap (λ z. get_or found z 0) (sym e))))
      (λ other. get_or-set_other xs i j n 0 other ∙ before j (omega arith))

  abbrev pub reading : M → ℕ → ℕ → List ℕ → M
  reading m q k xs = (turned m.0 q (restaged (corner m.0 q) (Reading k xs)), m.1)

  abbrev pub holding : M → ℕ → ℕ → List ℕ → List ℕ → M
  holding m q k found put = (turned m.0 q (restaged (corner m.0 q) (Holding k found put)), m.1)

  turned_stage : (v : View) (q : ℕ) (st : Stage) → q < length v.rows → (corner (turned v q (restaged (corner v q) st)) q).stage ≡ st
  turned_stage v q st h = ap (λ (c : Corner). c.stage) (corner_turned v q (restaged (corner v q) st) h)

  -- a read that has begun has read nothing yet
  pub reads_none : (m : M) (q k : ℕ) → (corner m.0 q).stage ≡ Reading k [] → m ≡ reading m q k []
  reads_none m q k e = sym (ap (λ (st : Stage). let x : M = (turned m.0 q (restaged (corner m.0 q) st), m.1) in x) (sym e) ∙ ap (λ (v : View). let x : M = (v, m.1) in x) (turned_self m.0 q))

  pub gather_call : (slots id : ℕ) (m m' : M) (z y : TableId) (q i k : ℕ) (xs : List ℕ) → m' ≡ reading m q k xs → IsAt z y start m.0 q → length xs ≡ i → i < 16
      → Allows Rule slots id m' (word_at q i) (λ n. n) (gathers (step slots (word_at q i) 0 0 none) m')
  gather_call slots id m m' z y q i k xs e a wide low = subst (λ (x : M). Allows Rule slots id x (word_at q i) (λ n. n) (gathers (step slots (word_at q i) 0 0 none) x)) (sym e)
      (gather_keeps means start slots id (reading m q k xs) q i k xs (row_in z y start m.0 q a) low a.live (turned_stage m.0 q (Reading k xs) (corner_in z y start m.0 q a)) wide)

  pub gather_next : (m m1 m2 : M) (q k n : ℕ) (xs : List ℕ) → q < length m.0.rows → m1 ≡ reading m q k xs → m2 ≡ (turned m1.0 q (restaged (corner m1.0 q) (peeked (corner m1.0 q).stage n)), m1.1) → m2 ≡ reading m q k (xs ++ n ∷ [])
  gather_next m m1 m2 q k n xs h e f = let c : Corner = restaged (corner m.0 q) (Reading k xs) in let v : View = turned m.0 q c in
      f ∙ (ap (λ (x : M). let y : M = (turned x.0 q (restaged (corner x.0 q) (peeked (corner x.0 q).stage n)), x.1) in y) e
      ∙ (ap (λ (d : Corner). let y : M = (turned v q (restaged d (peeked d.stage n)), m.1) in y) (corner_turned m.0 q c h)
      ∙ ap (λ (x : View). let y : M = (x, m.1) in y) (turned_again m.0 q c (restaged (corner m.0 q) (Reading k (xs ++ n ∷ []))))))

  pub store_call : (slots id : ℕ) (m m' : M) (z y : TableId) (q i k b : ℕ) (found put : List ℕ) → m' ≡ holding m q k found put → IsAt z y start m.0 q → length put ≡ i → i < 16
      → Allows Rule slots id m' (word_at q i) (λ _. b) (λ _. stores (step slots (word_at q i) b 0 none) m' b)
  store_call slots id m m' z y q i k b found put e a wide low = subst (λ (x : M). Allows Rule slots id x (word_at q i) (λ _. b) (λ _. stores (step slots (word_at q i) b 0 none) x b)) (sym e)
      (store_keeps means start slots id (holding m q k found put) q i k b found put (row_in z y start m.0 q a) low a.live (turned_stage m.0 q (Holding k found put) (corner_in z y start m.0 q a)) wide)

  pub store_next : (m m1 m2 : M) (q k n : ℕ) (found put : List ℕ) → q < length m.0.rows → m1 ≡ holding m q k found put → m2 ≡ (turned m1.0 q (restaged (corner m1.0 q) (stored (corner m1.0 q).stage n)), m1.1) → m2 ≡ holding m q k found (put ++ n ∷ [])
  store_next m m1 m2 q k n found put h e f = let c : Corner = restaged (corner m.0 q) (Holding k found put) in let v : View = turned m.0 q c in
      f ∙ (ap (λ (x : M). let y : M = (turned x.0 q (restaged (corner x.0 q) (stored (corner x.0 q).stage n)), x.1) in y) e
      ∙ (ap (λ (d : Corner). let y : M = (turned v q (restaged d (stored d.stage n)), m.1) in y) (corner_turned m.0 q c h)
      ∙ ap (λ (x : View). let y : M = (x, m.1) in y) (turned_again m.0 q c (restaged (corner m.0 q) (Holding k found (put ++ n ∷ []))))))

  -- a row in hand of which nothing was stored
  pub holds_none : (m : M) (q : ℕ) → IsHeld m.0 q → m ≡ holding m q (version_held (corner m.0 q).stage) (found_in (corner m.0 q).stage) []
  holds_none m q e = sym (ap (λ (st : Stage). let x : M = (turned m.0 q (restaged (corner m.0 q) st), m.1) in x) (sym e) ∙ ap (λ (v : View). let x : M = (v, m.1) in x) (turned_self m.0 q))

  pub finish_call : (slots id : ℕ) (m m' : M) (z y : TableId) (q k : ℕ) (xs : List ℕ) → m' ≡ reading m q k xs → IsAt z y start m.0 q → length xs ≡ 16
      → Allows Rule slots id m' (lock_at q) (λ n. n) (finishes (step slots (lock_at q) 0 0 none) m')
  finish_call slots id m m' z y q k xs e a wide = subst (λ (x : M). Allows Rule slots id x (lock_at q) (λ n. n) (finishes (step slots (lock_at q) 0 0 none) x)) (sym e)
      (finish_keeps means start slots id (reading m q k xs) q k xs (row_in z y start m.0 q a) a.live (turned_stage m.0 q (Reading k xs) (corner_in z y start m.0 q a)) wide)

  pub publish_call : (slots id : ℕ) (m m' : M) (z y : TableId) (q k new : ℕ) (found put : List ℕ) → m' ≡ holding m q k found put → IsAt z y start m.0 q → 0 < q → length put ≡ 16 → new ≡ 4 * (k + 1) + 2
      → Allows Rule slots id m' (lock_at q) (λ _. new) (λ _. publishes (step slots (lock_at q) new 0 none) m' new)
  publish_call slots id m m' z y q k new found put e a above wide is = subst (λ (x : M). Allows Rule slots id x (lock_at q) (λ _. new) (λ _. publishes (step slots (lock_at q) new 0 none) x new)) (sym e)
      (publish_keeps means start slots id (holding m q k found put) q k found put new (row_in z y start m.0 q a) above a.live (turned_stage m.0 q (Holding k found put) (corner_in z y start m.0 q a)) wide is)

  pub publish_next : (m m1 m2 : M) (q k : ℕ) (found put : List ℕ) → q < length m.0.rows → m1 ≡ holding m q k found put → m2 ≡ (published m1.0 q, m1.1) → m2 ≡ (published_at m.0 q k found put, m.1)
  publish_next m m1 m2 q k found put h e f = let c : Corner = restaged (corner m.0 q) (Holding k found put) in let v : View = turned m.0 q c in
      f ∙ (ap (λ (x : M). let y : M = (published x.0 q, x.1) in y) e
      ∙ (ap (λ (st : Stage). let y : M = (published_at v q (version_held st) (found_in st) (stored_in st), m.1) in y) (turned_stage m.0 q (Holding k found put) h)
      ∙ ap (λ rows. let y : M = (record (published_at m.0 q k found put) { rows = rows }, m.1) in y) (set-set m.0.rows q c (sighted Idle (4 * (k + 1) + 2)))))

  pub free_call : (slots id : ℕ) (m m' : M) (z y : TableId) (q new : ℕ) → m' ≡ m → IsAt z y start m.0 q → 0 < q → IsHeld m.0 q → new ≡ 4 * version_held (corner m.0 q).stage
      → Allows Rule slots id m' (lock_at q) (λ _. new) (λ _. frees (step slots (lock_at q) new 0 none) m' new)
  free_call slots id m m' z y q new e a above held is = subst (λ (x : M). Allows Rule slots id x (lock_at q) (λ _. new) (λ _. frees (step slots (lock_at q) new 0 none) x new)) (sym e)
      (free_keeps means start slots id m q (version_held (corner m.0 q).stage) (found_in (corner m.0 q).stage) new (row_in z y start m.0 q a) above a.live held is)

-- what the last look of a read finds, of a view that has read the words xs at the version k
finished_is : (v v1 : View) (q n k : ℕ) (xs : List ℕ) → q < length v.rows → v1 ≡ turned v q (restaged (corner v q) (Reading k xs)) → finished v1 q n ≡ finished_at (turned v q (restaged (corner v q) (Reading k xs))) q n k xs
finished_is v v1 q n k xs h e = let u : View = turned v q (restaged (corner v q) (Reading k xs)) in let s : (corner u q).stage ≡ Reading k xs = ap (λ (c : Corner). c.stage) (corner_turned v q (restaged (corner v q) (Reading k xs)) h) in
    ap (λ (x : View). finished x q n) e ∙ ap (λ (st : Stage). finished_at u q n (version_read st) (words_read st)) s

pub whole_answer : (v v1 w : View) (q first n : ℕ) (xs : List ℕ) → q < length v.rows → v1 ≡ turned v q (restaged (corner v q) (Reading (first / 4) xs)) → w ≡ finished v1 q n → first % 4 ≡ 2 → n ≡ first → (corner v q).seen ≤ first / 4 → (corner v q).last ≡ Some first → length xs ≡ 16
    → IsSeenAs v q (seen.Whole (first / 4) xs) w
whole_answer v v1 w q first n xs h e f two same seen last wide = let k : ℕ = first / 4 in let c : Corner = restaged (corner v q) (Reading k xs) in let u : View = turned v q c in let is : n ≡ 4 * k + 2 = omega arith in
    let A : View = record (turned u q (sighted Idle n)) { looks = u.looks + 1; reads = read_of u q k xs ∷ u.reads } in let B : View = record (turned u q (sighted Idle n)) { looks = u.looks + 1; sights = sight_of u q (4 * k + 2) n ∷ u.sights } in (
      seen,
      wide,
      any_looks w (record (turned v q (sighted Idle (4 * k + 2))) { looks = v.looks + 1; reads = read_of v q k xs ∷ v.reads }) (f ∙ (finished_is v v1 q n k xs h e ∙ (cond-true (eqb n (4 * k + 2)) A B (eq-eqb n (4 * k + 2) is)
          ∙ (ap (λ rows. record v { looks = v.looks + 1; rows = rows; reads = read_of v q k xs ∷ v.reads }) (set-set v.rows q c (sighted Idle n)) ∙ ap (λ z. record (turned v q (sighted Idle z)) { looks = v.looks + 1; reads = read_of v q k xs ∷ v.reads }) is)))),
      (λ _ j _ other. let e : first ≡ j = some_same first j (sym last ∙ other) in omega arith),
    )

pub busy_answer : (v v1 w : View) (q first n : ℕ) (xs : List ℕ) → q < length v.rows → v1 ≡ turned v q (restaged (corner v q) (Reading (first / 4) xs)) → w ≡ finished v1 q n → first % 4 ≡ 2 → n ≢ first → (corner v q).seen ≤ first / 4
    → (corner v q).fresh ≡ true → (corner v q).last ≡ Some first → IsLook v1 n q → IsSeenAs v q (seen.Busy first n) w
busy_answer v v1 w q first n xs h e f two differ seen fresh last look = let k : ℕ = first / 4 in let c : Corner = restaged (corner v q) (Reading k xs) in let u : View = turned v q c in let not : n ≢ 4 * k + 2 = λ g. differ (omega arith) in
    let A : View = record (turned u q (sighted Idle n)) { looks = u.looks + 1; reads = read_of u q k xs ∷ u.reads } in let B : View = record (turned u q (sighted Idle n)) { looks = u.looks + 1; sights = sight_of u q (4 * k + 2) n ∷ u.sights } in
    let at : corner v1 q ≡ c = ap (λ (x : View). corner x q) e ∙ corner_turned v q c h in let first_is : 4 * k + 2 ≡ first = omega arith in
    let fresh1 : (corner v1 q).fresh ≡ true = ap (λ (x : Corner). x.fresh) at ∙ fresh in let last1 : (corner v1 q).last ≡ Some first = ap (λ (x : Corner). x.last) at ∙ last in (
      inr (two, differ),
      seen,
      look.after first fresh1 last1,
      look.state,
      (λ whole. differ (look.same (subst IsWhole (sym e) whole) first fresh1 last1)),
      any_looks w (record (turned v q (sighted Idle n)) { looks = v.looks + 1; sights = sight_of v q first n ∷ v.sights }) (f ∙ (finished_is v v1 q n k xs h e ∙ (cond-false (eqb n (4 * k + 2)) A B (ne_eqb n (4 * k + 2) not)
          ∙ (ap (λ rows. record v { looks = v.looks + 1; rows = rows; sights = sight_of v q (4 * k + 2) n ∷ v.sights }) (set-set v.rows q c (sighted Idle n)) ∙ ap (λ z. record (turned v q (sighted Idle n)) { looks = v.looks + 1; sights = sight_of v q z n ∷ v.sights }) first_is)))),
    )

looked_two : (v : View) (q n : ℕ) → n % 4 ≡ 2 → looked v q n ≡ record (turned v q (sighted (Reading (n / 4) []) n)) { looks = v.looks + 1 }
looked_two v q n e = ap (λ (st : Stage). record (turned v q (sighted st n)) { looks = v.looks + 1; sights = if n % 4 == 2 then v.sights else sight_of v q n n ∷ v.sights }) (begun_at n e)
    ∙ ap (λ s. record (turned v q (sighted (Reading (n / 4) []) n)) { looks = v.looks + 1; sights = s }) (cond-true (eqb (n % 4) 2) v.sights (sight_of v q n n ∷ v.sights) (eq-eqb (n % 4) 2 e))

looked_else : (v : View) (q n : ℕ) → n % 4 ≢ 2 → looked v q n ≡ record (turned v q (sighted Idle n)) { looks = v.looks + 1; sights = sight_of v q n n ∷ v.sights }
looked_else v q n e = ap (λ (st : Stage). record (turned v q (sighted st n)) { looks = v.looks + 1; sights = if n % 4 == 2 then v.sights else sight_of v q n n ∷ v.sights }) (begun_not n e)
    ∙ ap (λ s. record (turned v q (sighted Idle n)) { looks = v.looks + 1; sights = s }) (cond-false (eqb (n % 4) 2) v.sights (sight_of v q n n ∷ v.sights) (ne_eqb (n % 4) 2 e))

pub free_answer : (v w : View) (q n : ℕ) → w ≡ looked v q n → n % 4 ≡ 0 → IsLook v n q → IsSeenAs v q (seen.Free n) w
free_answer v w q n e nil look = (nil, look.later, any_looks w (missed v q n n) (e ∙ looked_else v q n (λ g. omega arith)), look.same)

pub dirty_answer : (v w : View) (q n : ℕ) → w ≡ looked v q n → n % 4 ≡ 1 → is_holding (corner v q).stage ≡ false → IsLook v n q → IsSeenAs v q (seen.Busy n n) w
dirty_answer v w q n e odd free look = (inl (odd, refl), look.later, omega arith, look.state, (λ whole. look.clean whole free odd), any_looks w (missed v q n n) (e ∙ looked_else v q n (λ g. omega arith)))

-- after its first look a read may go on
pub may_read : (z z' y : TableId) (start : List ℕ) (v w : View) (q n : ℕ) → IsAt z y start v q → z' ≡ z → w ≡ looked v q n → n % 4 ≡ 2
    → IsAt z' y start w q × ((n % 4 ≡ 2) × ((corner w q).seen ≤ n / 4) × ((corner w q).fresh ≡ true) × ((corner w q).last ≡ Some n)) × ((corner w q).stage ≡ Reading (n / 4) [])
may_read z z' y start v w q n a e is two = let h = corner_in z y start v q a in let st : Stage = Reading (n / 4) [] in let is' : w ≡ record (turned v q (sighted st n)) { looks = v.looks + 1 } = is ∙ looked_two v q n two in
    let c = sight_corner v w q n st h (ap (λ (x : View). x.rows) is') in let s : (corner w q).seen ≡ n / 4 = ap (λ (x : Corner). x.seen) c in (
      at_next z z' y start v w q a e (ap (λ (x : View). length x.rows) is' ∙ length-set v.rows q (sighted st n)) (ap (λ (x : View). x.live) is'),
      (two, omega arith, ap (λ (x : Corner). x.fresh) c, ap (λ (x : Corner). x.last) c),
      ap (λ (x : Corner). x.stage) c,
    )

abbrev begins : View → ℕ → ℕ → View
begins v q n = record (turned v q (sighted (Reading (n / 4) []) n)) { looks = v.looks + 1 }

read_on : (v : View) (q n : ℕ) (x : Seen) (w : View) → q < length v.rows → IsLook v n q → IsSeenAs (begins v q n) q x w → IsSeenAs v q x w
read_on v q n (seen.Whole k xs) w h look a = let c : Corner = sighted (Reading (n / 4) []) n in let here = corner_turned v q c h in let s : (corner (turned v q c) q).seen ≡ n / 4 = ap (λ (d : Corner). d.seen) here in let l = look.later in let b = a.0 in
    (omega arith, a.1, a.2 ∙ ap (λ rows. record v { looks = w.looks; rows = rows; reads = read_of v q k xs ∷ v.reads }) (set-set v.rows q c (sighted Idle (4 * k + 2))), λ whole j fresh last. a.3 whole n (ap (λ (d : Corner). d.fresh) here) (ap (λ (d : Corner). d.last) here) ∙ look.same whole j fresh last)
read_on v q n (seen.Free m) w h look a = let c : Corner = sighted (Reading (n / 4) []) n in let here = corner_turned v q c h in let s : (corner (turned v q c) q).seen ≡ n / 4 = ap (λ (d : Corner). d.seen) here in let l = look.later in let b = a.1 in
    (a.0, omega arith, a.2 ∙ ap (λ rows. record v { looks = w.looks; rows = rows; sights = sight_of v q m m ∷ v.sights }) (set-set v.rows q c (sighted Idle m)), λ whole j fresh last. a.3 whole n (ap (λ (d : Corner). d.fresh) here) (ap (λ (d : Corner). d.last) here) ∙ look.same whole j fresh last)
read_on v q n (seen.Busy m o) w h look a = let c : Corner = sighted (Reading (n / 4) []) n in let here = corner_turned v q c h in let s : (corner (turned v q c) q).seen ≡ n / 4 = ap (λ (d : Corner). d.seen) here in let l = look.later in let b = a.1 in
    (a.0, omega arith, a.2, a.3, a.4, a.5 ∙ ap (λ rows. record v { looks = w.looks; rows = rows; sights = sight_of v q m o ∷ v.sights }) (set-set v.rows q c (sighted Idle o)))

-- what a read answers that looked first
pub read_answer : (v : View) (q n : ℕ) (x : Seen) (w : View) → q < length v.rows → IsLook v n q → n % 4 ≡ 2 → IsSeenAs (looked v q n) q x w → IsSeenAs v q x w
read_answer v q n x w h look two a = read_on v q n x w h look (subst (λ (u : View). IsSeenAs u q x w) (looked_two v q n two) a)

-- the last look of a read counts one more
pub finished_looks : (v v1 w : View) (q n k : ℕ) (xs : List ℕ) → q < length v.rows → v1 ≡ turned v q (restaged (corner v q) (Reading k xs)) → w ≡ finished v1 q n → w.looks ≡ v.looks + 1
finished_looks v v1 w q n k xs h e f = let u : View = turned v q (restaged (corner v q) (Reading k xs)) in
    let A : View = record (turned u q (sighted Idle n)) { looks = u.looks + 1; reads = read_of u q k xs ∷ u.reads } in let B : View = record (turned u q (sighted Idle n)) { looks = u.looks + 1; sights = sight_of u q (4 * k + 2) n ∷ u.sights } in
    ap (λ (x : View). x.looks) (f ∙ finished_is v v1 q n k xs h e)
    ∙ dite (ℕ_discrete n (4 * k + 2)) (λ g. ap (λ (x : View). x.looks) (cond-true (eqb n (4 * k + 2)) A B (eq-eqb n (4 * k + 2) g))) (λ g. ap (λ (x : View). x.looks) (cond-false (eqb n (4 * k + 2)) A B (ne_eqb n (4 * k + 2) g)))
