-- No call of a later phase is below what the actors of earlier phases left.
use Rattle.std.proofs.Common.{ℕ, ◌≡◌, ◌≢◌, ◌+◌, ◌/◌, ◌==◌, ◌<◌, ◌≤◌, nat_lt, nat_le, ◌&&◌, not, Bool, true, false, cond, List, [], ◌∷◌, ◌++◌, length, slice_index, Option, Some, None, refl, ap, sym, ◌∙◌, subst, inl, inr, ⊎_elim, arith, eq-eqb, length-append, append_assoc}
use Rattle.std.proofs.lemmas.Bool.{cases_eq, eqb-true, and_parts, cases_Bool, cond-false, cond-true, le-leb, leb-true, lt-ltb, not-true}
use Rattle.std.proofs.lemmas.Bool.Decides.{nat_tests}
use Rattle.pfs_lemmas.proofs.Options.{some_same}
use Rattle.pfs_board.specs.declared.view.Change.{Change}
use Rattle.pfs_board.specs.declared.view.Finished.{Finished}
use Rattle.pfs_board.specs.declared.view.Sight.{Sight}
use Rattle.pfs_board.specs.declared.view.View.{View}
use Rattle.pfs_board.specs.History as board
use Rattle.pfs_board.specs.History.{Each, Some_of, IsChain, version, version_of, level, shows_to, oldest, Floor}
use Rattle.pfs_board.specs.Rule.{IsRead, IsSight}
use Rattle.pfs_board.specs.WholeSeats.{History}
use Rattle.pfs_board.proofs.HistoryFacts.{each_map, level_release}
use Rattle.pfs_board.proofs.HistoryFacts.{total_append}
use Rattle.pfs_board.proofs.VersionFacts.{each_made}
use Rattle.pfs_board.specs.History.{lock_at}
use Rattle.pfs_levels.specs.declared.answers.Added.TheVariants.{Counted, Held}
use Rattle.pfs_levels.specs.declared.answers.RingPut.TheVariants.{Done, Busy, Late}
use Rattle.pfs_levels.specs.Calls.{Call, Adds, Rings, Reads, Loads, Draws, Takes, Puts, Frees, Sets, Enters, Leaves, Meets, Start, Opening, IsRow, action_in, after_in, hand_in}
use Rattle.pfs_levels.specs.JointCalls.{total, one_if, At, changes_of, count, Setting, sets_of, word_version, opens_free, frees_at, all_calls}
use Rattle.pfs_levels.specs.CallOrder.{Mark, all_marks, AllCalls}
use Rattle.pfs_levels.specs.PhaseFloors.{AreSince}
use Rattle.pfs_rows.specs.declared.table.Seen.TheVariants.{Whole, Free}
use Rattle.pfs_rows.specs.declared.table.Seen.TheVariants as sees
use Rattle.pfs_board_store.specs.RootActors.{Worked, calls_of_all, AreParts, AllShown, AllDone, ats_of, marks_in}
use Rattle.pfs_board_store.specs.ActorPhases.{AllMetSince, AllLater, SinceLaw}
use Rattle.pfs_board_store.specs.RootLaws.{content_of, IsRunsBoard}
use Rattle.pfs_board_store.specs.Ties.{IsMade, IsTied, IsSighted, IsFinished, AreLoaded, AreShown}
use Rattle.pfs_board_store.proofs.WordFlags.{IsSo}
use Rattle.pfs_board_store.proofs.Floors.{level_up}
use Rattle.pfs_board_store.proofs.ChangeOrder.{counts, all_ats, all_marked}
use Rattle.pfs_board_store.proofs.ActionLabels.{some_each}
use Rattle.pfs_board_store.proofs.TicketOrder.{no_and}
use Rattle.pfs_board_store.proofs.JointCalls.{each_front, each_back, word_front, word_back}
use Rattle.pfs_board_store.proofs.ViewCorners.{away_if, here_if, none_some}
use Rattle.pfs_switches.specs.declared.view.Loaded.{Loaded}
use Rattle.pfs_switches.specs.declared.view.Setting.{Setting as Written}
use Rattle.pfs_switches.specs.History as switches

abbrev Tied : Worked → List Change → Type 0
Tied a made = IsTied a.start.board a.calls made

abbrev Loading : Worked → List Loaded → Type 0
Loading a loads = AreLoaded a.start a.calls loads

-- what a call says of the words since these sets
abbrev WordsSince : List Setting → Call → Type 0
WordsSince sets (Loads at k found) = word_version sets at ≤ k
WordsSince sets (Meets versions) = (at : ℕ) → at < 160 → word_version sets at ≤ slice_index versions at
WordsSince sets (Sets at to k) = word_version sets at < k
WordsSince sets (Adds row amount answer) = Unit {0}
WordsSince sets (Rings row put answer) = Unit {0}
WordsSince sets (Reads row seen) = Unit {0}
WordsSince sets (Draws kind ticket) = Unit {0}
WordsSince sets (Takes row k found) = Unit {0}
WordsSince sets (Puts row put k) = Unit {0}
WordsSince sets (Frees row k) = Unit {0}
WordsSince sets (Enters label labels) = Unit {0}
WordsSince sets Leaves = Unit {0}

abbrev AllWordsSince : List Setting → List Call → Type 0
AllWordsSince sets [] = Unit {0}
AllWordsSince sets (call ∷ calls) = WordsSince sets call × AllWordsSince sets calls

-- a publication of the row at no version above k
abbrev lower : ℕ → ℕ → Change → Bool
lower r k p = ((p.row == r) && p.puts) && nat_le p.version k

-- a chain has no more than k of them, and no more than the row has publications
few : (start : List ℕ) (log : List Change) (r k : ℕ) → IsChain start log → (board.total (λ p. cond {A = ℕ} (lower r k p) 1 0) log ≤ k) × (board.total (λ p. cond {A = ℕ} (lower r k p) 1 0) log ≤ version log r)
few start [] r k c = (omega arith, omega arith)
few start (p ∷ ps) r k c =
    let i = few start ps r k c.1 in
    at (p.row == r) p.puts (nat_le p.version k) refl refl refl i where
      at : (a b d : Bool) → (p.row == r) ≡ a → p.puts ≡ b → nat_le p.version k ≡ d → (board.total (λ q. cond {A = ℕ} (lower r k q) 1 0) ps ≤ k) × (board.total (λ q. cond {A = ℕ} (lower r k q) 1 0) ps ≤ version ps r)
          → (cond {A = ℕ} ((a && b) && d) 1 0 + board.total (λ q. cond {A = ℕ} (lower r k q) 1 0) ps ≤ k) × (cond {A = ℕ} ((a && b) && d) 1 0 + board.total (λ q. cond {A = ℕ} (lower r k q) 1 0) ps ≤ cond {A = ℕ} a (version ps r + cond {A = ℕ} b 1 0) (version ps r))
      at true true true x y z i =
          let row : p.row ≡ r = eqb-true p.row r x in
          let v : p.version ≡ version ps r + 1 = c.0.numbered ∙ ap (λ b. version ps p.row + cond {A = ℕ} b 1 0) y ∙ ap (λ q. version ps q + 1) row in
          (omega (arith, v, leb-true p.version k z, i.1), omega (arith, i.1))
      at true true false x y z i = (omega (arith, i.0), omega (arith, i.1))
      at true false d x y z i = (omega (arith, i.0), omega (arith, i.1))
      at false b d x y z i = (omega (arith, i.0), omega (arith, i.1))

-- a row's version is how many publications of it stand in a list, here all at no version above k
many : (xs : List Change) (r k : ℕ) → Each (λ (e : Change). e.row ≡ r → e.puts ≡ true → e.version ≤ k) xs → version xs r ≡ board.total (λ p. cond {A = ℕ} (lower r k p) 1 0) xs
many [] r k e = refl
many (p ∷ ps) r k e = at (p.row == r) p.puts refl refl (many ps r k e.1) where
  at : (a b : Bool) → (p.row == r) ≡ a → p.puts ≡ b → version ps r ≡ board.total (λ q. cond {A = ℕ} (lower r k q) 1 0) ps
      → cond {A = ℕ} a (version ps r + cond {A = ℕ} b 1 0) (version ps r) ≡ cond {A = ℕ} ((a && b) && nat_le p.version k) 1 0 + board.total (λ q. cond {A = ℕ} (lower r k q) 1 0) ps
  at true true x y i = omega (arith, i, ap (λ d. cond {A = ℕ} d 1 0) (le-leb p.version k (e.0 (eqb-true p.row r x) y)))
  at true false x y i = omega (arith, i)
  at false b x y i = omega (arith, i)

-- the oldest entries are those behind the later ones
oldest_all : (xs : List Change) → oldest (length xs) xs ≡ xs
oldest_all [] = refl
oldest_all (x ∷ xs) = cond-true (nat_lt (length xs) (length (x ∷ xs))) (x ∷ xs) (oldest (length (x ∷ xs)) xs) (lt-ltb (length xs) (length (x ∷ xs)) (omega arith))

oldest_back : (xs ys : List Change) → oldest (length ys) (xs ++ ys) ≡ ys
oldest_back [] ys = oldest_all ys
oldest_back (x ∷ xs) ys = cond-false (nat_lt (length (xs ++ ys)) (length ys)) (x ∷ (xs ++ ys)) (oldest (length ys) (xs ++ ys)) (no (length (xs ++ ys)) (length ys) (omega (arith, length-append xs ys))) ∙ oldest_back xs ys where
  no : (a b : ℕ) → b ≤ a → nat_lt a b ≡ false
  no a b h = grind (arith, nat_tests)

shows_up : (p e : Change) → e.version ≤ shows_to p e
shows_up p e = ⊎_elim
    (λ g. let is : shows_to p e ≡ level e = cond-true p.puts (level e) e.version g in omega (arith, is, level_up e))
    (λ g. let is : shows_to p e ≡ e.version = cond-false p.puts (level e) e.version g in omega (arith, is)) (cases_Bool p.puts)

-- of actors of a later phase, where `rest` are the changes of the earlier ones
module _ (start words : List ℕ) (v : View) (h : History start words v) (o : IsRunsBoard start) (rest : List Change) (sets : List Setting) (back : oldest (length rest) h.t.had ≡ rest) (part : (g : Change → ℕ) → board.total g rest ≤ board.total g h.t.log) where
  abbrev log : List Change
  log = h.t.log

  abbrev content : ℕ → ℕ → List ℕ
  content = content_of start h.t.log

  abbrev Low : ℕ → ℕ → Change → Type 0
  Low row k e = e.row ≡ row → e.puts ≡ true → e.version ≤ k

  low_count : (row k : ℕ) → 0 < row → Each (Low row k) rest → count (ats_of rest) row ≤ k
  low_count row k some e = omega (arith, counts start rest row some, many rest row k e, part (λ p. cond {A = ℕ} (lower row k p) 1 0), (few start log row k h.chain).0)

  under_count : (row k : ℕ) (p : Change) → 0 < row → p.row ≡ row → p.puts ≡ true → p.version ≡ k → ((g : Change → ℕ) → g p + board.total g rest ≤ board.total g h.t.log) → Each (Low row k) rest → count (ats_of rest) row < k
  under_count row k p some at puts is sum e =
      let here : cond {A = ℕ} (lower row k p) 1 0 ≡ 1 = rw (eq-eqb p.row row at, puts, le-leb p.version k (omega (arith, is))) refl in
      omega (arith, counts start rest row some, many rest row k e, sum (λ q. cond {A = ℕ} (lower row k q) 1 0), here, (few start log row k h.chain).0)

  first_is : (f : Change → ℕ) (row k after base : ℕ) → base ≡ length rest → Floor f h.t.log h.t.had row k after base → Each (λ (e : Change). e.row ≡ row → f e ≤ k) rest
  first_is f row k after base e d =
      let P : List Change → Type 0 = λ z. Each (λ (c : Change). c.row ≡ row → f c ≤ k) z in
      subst P (ap (λ n. oldest n h.t.had) e ∙ back) d.first

  abbrev Floored : Change → Type 0
  Floored p = Floor (shows_to p) h.t.log h.t.had p.row p.version p.after p.base

  change_low : (begun : Start) (action after r k : ℕ) (puts : Bool) (p : Change) → begun.base ≡ length rest → IsMade begun action after r k puts p → Floored p → Each (Low r k) rest
  change_low begun action after r k puts p b m d =
      let A : Change → Type 0 = λ e. e.row ≡ p.row → shows_to p e ≤ p.version in
      let step : (e : Change) → A e → Low r k e = λ e f at _. omega (arith, f (at ∙ sym m.row_is), shows_up p e, m.version_is) in
      each_map A (Low r k) step rest (first_is (shows_to p) p.row p.version p.after p.base (m.base_is ∙ b) d)

  read_low : (begun : Start) (row k action after : ℕ) (f : Finished) → begun.base ≡ length rest → IsFinished begun row k action after f → IsRead start h.t f → Each (λ (e : Change). e.row ≡ row → level e ≤ k) rest
  read_low begun row k action after f b m r =
      let A : Change → Type 0 = λ e. e.row ≡ f.row → level e ≤ f.version in
      let B : Change → Type 0 = λ e. e.row ≡ row → level e ≤ k in
      let step : (e : Change) → A e → B e = λ e g at. omega (arith, g (at ∙ sym m.row_is), m.version_is) in
      each_map A B step rest (first_is level f.row f.version f.after f.base (m.base_is ∙ b) r.floor)

  level_low : (row k : ℕ) → Each (λ (e : Change). e.row ≡ row → level e ≤ k) rest → Each (Low row k) rest
  level_low row k e =
      let A : Change → Type 0 = λ c. c.row ≡ row → level c ≤ k in
      let step : (c : Change) → A c → Low row k c = λ c f at _. omega (arith, f at, level_up c) in
      each_map A (Low row k) step rest e

  -- of a row that was released at a version, and that no look found whole there
  no_release : (row k : ℕ) (xs : List Change) → Each (λ (e : Change). e.row ≡ row → level e ≤ k) xs → total (λ x. one_if ((x.row == row) && not x.puts && (x.version == k))) (ats_of xs) ≡ 0
  unfolding total ats_of
  no_release row k [] e = refl
  no_release row k (p ∷ ps) e = at (nat_lt 0 p.row) ((p.row == row) && not p.puts && (p.version == k)) refl (no_release row k ps e.1) where
    at : (b c : Bool) → ((p.row == row) && not p.puts && (p.version == k)) ≡ c → total (λ x. one_if ((x.row == row) && not x.puts && (x.version == k))) (ats_of ps) ≡ 0
        → total (λ x. one_if ((x.row == row) && not x.puts && (x.version == k))) (cond b (record { row = p.row; version = p.version; puts = p.puts } ∷ []) [] ++ ats_of ps) ≡ 0
    at false c z i = i
    at true false z i = omega (arith, ap one_if z, i)
    at true true z i =
        let x = and_parts ((p.row == row) && not p.puts) (p.version == k) z in
        let y = and_parts (p.row == row) (not p.puts) x.0 in
        absurd (omega (arith, e.0 (eqb-true p.row row y.0), level_release p (not-true p.puts y.1), eqb-true p.version k x.1))

  seen_low : (begun : Start) (row first second action after : ℕ) (x : Sight) → begun.base ≡ length rest → IsSighted begun row first second action after x → IsSight start h.t x → Each (Low row (first / 4)) rest
  seen_low begun row first second action after x b m s =
      let A : Change → Type 0 = λ e. e.row ≡ x.row → version_of e ≤ x.first / 4 in
      let step : (e : Change) → A e → Low row (first / 4) e = λ e f at _. omega (arith, f (at ∙ sym m.row_is), ap (λ z. z / 4) m.first_is) in
      each_map A (Low row (first / 4)) step rest (first_is version_of x.row (x.first / 4) x.after x.base (m.base_is ∙ b) s.one.known.floor)

  sighted_low : (begun : Start) (row first second action after : ℕ) → begun.base ≡ length rest → 0 < row → Some_of (IsSighted begun row first second action after) v.sights → count (ats_of rest) row ≤ first / 4
  sighted_low begun row first second action after b some s =
      let P : Sight → Type 0 = IsSighted begun row first second action after in
      some_each P (IsSight start h.t) (count (ats_of rest) row ≤ first / 4) (λ x m d. low_count row (first / 4) some (seen_low begun row first second action after x b m d)) v.sights s h.fits.sights

  whole_since : (begun : Start) (row k action after : ℕ) (f : Finished) → begun.base ≡ length rest → IsRow row → IsFinished begun row k action after f → IsRead start h.t f → (count (ats_of rest) row ≤ k) × (0 < frees_at (ats_of rest) row k → k ≡ count (ats_of rest) row → ⊥)
  whole_since begun row k action after f b some m r =
      let low = read_low begun row k action after f b m r in
      (low_count row k some.0 (level_low row k low), λ freed same. at (opens_free row) ((k == 0)) refl refl freed) where
        at : (a c : Bool) → opens_free row ≡ a → (k == 0) ≡ c → 0 < frees_at (ats_of rest) row k → ⊥
        at true true x y freed =
            let zero : k ≡ 0 = eqb-true k 0 y in
            r.opened (m.version_is ∙ zero) (ap (λ z. slice_index start (lock_at z)) m.row_is ∙ o.free row some.1 x)
        at true false x y freed = omega (arith, freed, no_release row k rest (read_low begun row k action after f b m r), ap (λ z. one_if (z && opens_free row)) y)
        at false c x y freed = omega (arith, freed, no_release row k rest (read_low begun row k action after f b m r), ap (λ z. one_if ((k == 0) && z)) x, no_and (k == 0))

  abbrev Owed : List Call → Type 0
  Owed calls = (row : ℕ) → 0 < row → (k : ℕ) → hand_in calls row ≡ Some k → count (ats_of rest) row ≤ k

  owed_taken : (row k : ℕ) (found : List ℕ) (calls : List Call) → hand_in calls row ≡ None → Owed (Takes row k found ∷ calls) → Owed calls
  owed_taken row k found calls none w q some j e = elim (cases_eq q row) [
    | inl i ↦ absurd (none_some j (sym (ap (hand_in calls) i ∙ none) ∙ e))
    | inr n ↦ w q some j (away_if row q (Some k) (hand_in calls q) n ∙ e)
  ]

  owed_left : (row k : ℕ) (calls : List Call) → hand_in calls row ≡ Some k → count (ats_of rest) row ≤ k → ((q : ℕ) → 0 < q → q ≢ row → (j : ℕ) → hand_in calls q ≡ Some j → count (ats_of rest) q ≤ j) → Owed calls
  owed_left row k calls mine low w q some j e = elim (cases_eq q row) [
    | inl i ↦ let is : k ≡ j = some_same k j (sym mine ∙ sym (ap (hand_in calls) i) ∙ e) in omega (arith, low, is, ap (count (ats_of rest)) i)
    | inr n ↦ w q some n j e
  ]

  owed_first : (calls : List Call) (x : Option ℕ) → ((row : ℕ) → 0 < row → (k : ℕ) → cond (0 == row) x (hand_in calls row) ≡ Some k → count (ats_of rest) row ≤ k) → Owed calls
  owed_first calls x w q some j e = w q some j (away_if 0 q x (hand_in calls q) (λ z. absurd (omega (arith, some, z))) ∙ e)

  abbrev Among : List Change → Type 0
  Among made = (g : Change → ℕ) → board.total g made + board.total g rest ≤ board.total g h.t.log

  among_one : (p : Change) (made : List Change) → Among (p ∷ made) → (g : Change → ℕ) → g p + board.total g rest ≤ board.total g h.t.log
  among_one p made a g = omega (arith, a g)

  among_more : (p : Change) (made : List Change) → Among (p ∷ made) → Among made
  among_more p made a g = omega (arith, a g)

  pub since : (begun : Start) (calls : List Call) (made : List Change) → begun.base ≡ length rest → IsTied begun calls made → AreShown begun v.reads v.sights v.entered calls → Among made → Each Floored made → AllWordsSince sets calls → Owed calls
      → AreSince (ats_of rest) sets calls
  since begun [] made b t s a d f w = tt
  since begun (Adds row amount (Counted q k) ∷ calls) [] b t s a d f w = absurd t
  since begun (Adds row amount (Counted q k) ∷ calls) (p ∷ made) b t s a d f w =
      (under_count q k p t.0 t.1.row_is t.1.puts_is t.1.version_is (among_one p made a) (change_low begun _ _ q k true p b t.1 d.0), since begun calls made b t.3 s.1 (among_more p made a) d.1 f.1 w)
  since begun (Adds row amount (Held q first second) ∷ calls) made b t s a d f w = (sighted_low begun q first second _ _ b s.0.0.0 s.0.2, since begun calls made b t s.1 a d f.1 w)
  since begun (Rings row put (Done k) ∷ calls) [] b t s a d f w = absurd t
  since begun (Rings row put (Done k) ∷ calls) (p ∷ made) b t s a d f w =
      (under_count row k p t.0 t.1.row_is t.1.puts_is t.1.version_is (among_one p made a) (change_low begun _ _ row k true p b t.1 d.0), since begun calls made b t.3 s.1 (among_more p made a) d.1 f.1 w)
  since begun (Rings row put (Busy first second) ∷ calls) made b t s a d f w = (sighted_low begun row first second _ _ b s.0.0.0 s.0.2, since begun calls made b t s.1 a d f.1 w)
  since begun (Rings row put (Late ticket k) ∷ calls) made b t s a d f w =
      let some : 0 < row = omega (arith, s.0.0) in
      let P : Finished → Type 0 = λ e. IsFinished begun row k (action_in calls) (after_in calls) e × (slice_index e.content 15 ≡ ticket + 1) in
      let R : Type 0 = count (ats_of rest) row ≤ k in
      (some_each P (IsRead start h.t) R (λ e m r. low_count row k some (level_low row k (read_low begun row k _ _ e b m.0 r))) v.reads s.0.1 h.fits.reads, since begun calls made b t s.1 a d f.1 w)
  since begun (Reads row (Whole k found) ∷ calls) made b t s a d f w =
      let P : Finished → Type 0 = λ e. IsFinished begun row k (action_in calls) (after_in calls) e × (e.content ≡ found) in
      let R : Type 0 = (count (ats_of rest) row ≤ k) × (0 < frees_at (ats_of rest) row k → k ≡ count (ats_of rest) row → ⊥) in
      (some_each P (IsRead start h.t) R (λ e m r. whole_since begun row k _ _ e b s.0.0 m.0 r) v.reads s.0.1 h.fits.reads, since begun calls made b t s.1 a d f.1 w)
  since begun (Reads row (Free n) ∷ calls) made b t s a d f w = (sighted_low begun row n n _ _ b s.0.0 s.0.2, since begun calls made b t s.1 a d f.1 w)
  since begun (Reads row (sees.Busy first second) ∷ calls) made b t s a d f w = (sighted_low begun row first second _ _ b s.0.0.0 s.0.2, since begun calls made b t s.1 a d f.1 w)
  since begun (Loads at k found ∷ calls) made b t s a d f w = (f.0, since begun calls made b t s.1 a d f.1 w)
  since begun (Draws kind ticket ∷ calls) made b t s a d f w = (tt, since begun calls made b t s.1 a d f.1 w)
  since begun (Meets versions ∷ calls) made b t s a d f w = (f.0, since begun calls made b t s.1 a d f.1 w)
  since begun (Takes row k found ∷ calls) made b t s a d f w = (w row t.0 k (here_if row (Some k) (hand_in calls row)), since begun calls made b t.2 s.1 a d f.1 (owed_taken row k found calls t.1 w))
  since begun (Puts row put k ∷ calls) [] b t s a d f w = absurd t
  since begun (Puts row put k ∷ calls) (p ∷ made) b t s a d f w =
      let under : count (ats_of rest) row < k = under_count row k p t.0 t.1.row_is t.1.puts_is t.1.version_is (among_one p made a) (change_low begun _ _ row k true p b t.1 d.0) in
      (under, since begun calls made b t.4 s.1 (among_more p made a) d.1 f.1 (owed_left row t.3.0 calls t.3.1 (omega (arith, under, t.3.2)) (λ q some apart j e. w q some j (away_if row q None (hand_in calls q) apart ∙ e))))
  since begun (Frees row k ∷ calls) [] b t s a d f w = absurd t
  since begun (Frees row k ∷ calls) (p ∷ made) b t s a d f w =
      let low : count (ats_of rest) row ≤ k = low_count row k t.0 (change_low begun _ _ row k false p b t.1 d.0) in
      (low, since begun calls made b t.4 s.1 (among_more p made a) d.1 f.1 (owed_left row k calls t.3 low (λ q some apart j e. w q some j (away_if row q None (hand_in calls q) apart ∙ e))))
  since begun (Sets at to k ∷ calls) made b t s a d f w = (f.0, since begun calls made b t.1 s.1 a d f.1 w)
  since begun (Enters label labels ∷ calls) made b t s a d f w = (tt, since begun calls made b t s.1 a d f.1 (owed_first calls (Some (length labels)) w))
  since begun (Leaves ∷ calls) [] b t s a d f w = absurd t
  since begun (Leaves ∷ calls) (p ∷ made) b t s a d f w = (tt, since begun calls made b t.3 s.1 (among_more p made a) d.1 f.1 (owed_first calls None w))

-- the part of the first actors, and of the others
record Split (P : Worked → List Change → Type 0) (now before : List Worked) (made : List Change) : Type 0 where
  mine : List Change
  rest : List Change
  made_is : made ≡ mine ++ rest
  first : AreParts P now mine
  others : AreParts P before rest

split_parts : (P : Worked → List Change → Type 0) (now before : List Worked) (made : List Change) → AreParts P (now ++ before) made → Split P now before made
split_parts P [] before made g = record { mine = []; rest = made; made_is = refl; first = refl; others = g }
split_parts P (a ∷ now) before made g =
    let r = split_parts P now before g.1 g.4 in
    record {
      mine = g.0 ++ r.mine;
      rest = r.rest;
      made_is = g.2 ∙ ap (λ z. g.0 ++ z) r.made_is ∙ sym (append_assoc g.0 r.mine r.rest);
      first = (g.0, r.mine, refl, g.3, r.first);
      others = r.others;
    }

front_loads : (now before : List Worked) (loads : List Loaded) → AreParts Loading (now ++ before) loads → (mine : List Loaded) × (rest : List Loaded) × (loads ≡ mine ++ rest) × AreParts Loading now mine
front_loads [] before loads g = ([], loads, refl, refl)
front_loads (a ∷ now) before loads g = let r = front_loads now before g.1 g.4 in (g.0 ++ r.0, r.1, g.2 ∙ ap (λ z. g.0 ++ z) r.2 ∙ sym (append_assoc g.0 r.0 r.1), (g.0, r.0, refl, g.3, r.3))

front_shown : (v : View) (now before : List Worked) → AllShown v.reads v.sights v.entered (now ++ before) → AllShown v.reads v.sights v.entered now
front_shown v [] before s = tt
front_shown v (a ∷ now) before s = (s.0, front_shown v now before s.1)

front_done : (now before : List Worked) → AllDone (now ++ before) → AllDone now
front_done [] before s = tt
front_done (a ∷ now) before s = (s.0, front_done now before s.1)

marks_long : (xs : List Change) → length (marks_in xs) ≡ length xs
unfolding marks_in
marks_long [] = refl
marks_long (x ∷ xs) = omega (arith, marks_long xs)

module _ (flags : List ℕ) (written : List Written) (sets : List Setting) where
  loads_since : (start : Opening) (calls : List Call) (loads : List Loaded) → AreLoaded start calls loads → switches.Each (IsSo flags written) loads → ((at : ℕ) → word_version sets at ≤ slice_index start.words at) → AllMetSince sets calls → AllWordsSince sets calls
  loads_since start [] loads l e f m = tt
  loads_since start (Loads at k found ∷ calls) [] l e f m = absurd l
  loads_since start (Loads at k found ∷ calls) (x ∷ loads) l e f m = (omega (arith, f at, l.0.first_is, l.0.version_is, e.0.first_is, e.0.least_is), loads_since start calls loads l.1 e.1 f m.1)
  loads_since start (Sets at to k ∷ calls) [] l e f m = absurd l
  loads_since start (Sets at to k ∷ calls) (x ∷ loads) l e f m = (m.0, loads_since start calls loads l.1 e.1 f m.1)
  loads_since start (Meets versions ∷ calls) loads l e f m = (m.0, loads_since start calls loads l e f m.1)
  loads_since start (Adds row amount answer ∷ calls) loads l e f m = (tt, loads_since start calls loads l e f m.1)
  loads_since start (Rings row put answer ∷ calls) loads l e f m = (tt, loads_since start calls loads l e f m.1)
  loads_since start (Reads row seen ∷ calls) loads l e f m = (tt, loads_since start calls loads l e f m.1)
  loads_since start (Draws kind ticket ∷ calls) loads l e f m = (tt, loads_since start calls loads l e f m.1)
  loads_since start (Takes row k found ∷ calls) loads l e f m = (tt, loads_since start calls loads l e f m.1)
  loads_since start (Puts row put k ∷ calls) loads l e f m = (tt, loads_since start calls loads l e f m.1)
  loads_since start (Frees row k ∷ calls) loads l e f m = (tt, loads_since start calls loads l e f m.1)
  loads_since start (Enters label labels ∷ calls) loads l e f m = (tt, loads_since start calls loads l e f m.1)
  loads_since start (Leaves ∷ calls) loads l e f m = (tt, loads_since start calls loads l e f m.1)

module _ (start words : List ℕ) (v : View) (h : History start words v) (o : IsRunsBoard start) (flags : List ℕ) (written : List Written) (before : List Worked) (rest : List Change) (tied : AreParts Tied before rest) (back : oldest (length rest) h.t.had ≡ rest) (part : (g : Change → ℕ) → board.total g rest ≤ board.total g h.t.log) where
  abbrev was : List (List Call)
  was = calls_of_all before

  base_is : (n : ℕ) → n ≡ length (all_marks was) → n ≡ length rest
  base_is n e = e ∙ ap (λ (z : List Mark). length z) (all_marked before rest tied) ∙ marks_long rest

  all_since : (now : List Worked) (made : List Change) (loads : List Loaded) → AreParts Tied now made → AreParts Loading now loads → AllShown v.reads v.sights v.entered now → AllDone now
      → ((g : Change → ℕ) → board.total g made + board.total g rest ≤ board.total g h.t.log) → Each (λ (p : Change). Floor (shows_to p) h.t.log h.t.had p.row p.version p.after p.base) made → switches.Each (IsSo flags written) loads → AllLater was now
      → AllCalls (AreSince (changes_of (all_calls was)) (sets_of (all_calls was))) (calls_of_all now)
  all_since [] made loads g l s d a f e m = tt
  all_since (x ∷ now) made loads g l s d a f e m =
      let F : Change → Type 0 = λ p. Floor (shows_to p) h.t.log h.t.had p.row p.version p.after p.base in
      let sets : List Setting = sets_of (all_calls was) in
      let G = subst (Each F) g.2 f in
      let E = subst (switches.Each (IsSo flags written)) l.2 e in
      let sums : (q : Change → ℕ) → board.total q made ≡ board.total q g.0 + board.total q g.1 = λ q. ap (board.total q) g.2 ∙ total_append q g.0 g.1 in
      let P : List At → Type 0 = λ z. AreSince z sets x.calls in (
        subst P (sym (all_ats before rest tied)) (since start words v h o rest sets back part x.start.board x.calls g.0 (base_is x.start.board.base m.0.base) g.3 s.0 (λ q. omega (arith, a q, sums q)) (each_front F g.0 g.1 G)
            (loads_since flags written sets x.start x.calls l.0 l.3 (word_front (IsSo flags written) l.0 l.1 E) m.0.words m.0.met) (λ row some k is. absurd (none_some k (sym (d.0.empty row some) ∙ is)))),
        all_since now g.1 l.1 g.4 l.4 s.1 d.1 (λ q. omega (arith, a q, sums q)) (each_back F g.0 g.1 G) (word_back (IsSo flags written) l.0 l.1 E) m.1,
      )

pub later : SinceLaw
later flags start words v w pen t before now g o h told m =
    let p = split_parts Tied now before v.made g.tied in
    let l = front_loads now before w.loads g.loaded in
    let F : Change → Type 0 = λ c. Floor (shows_to c) h.t.log h.t.had c.row c.version c.after c.base in
    let floors : Each F v.made = each_made F v.made h.t.log h.once h.floors in
    let sums : (q : Change → ℕ) → board.total q p.mine + board.total q p.rest ≡ board.total q h.t.log = λ q. sym (total_append q p.mine p.rest) ∙ sym (ap (board.total q) p.made_is) ∙ h.once q in
    let back : oldest (length p.rest) h.t.had ≡ p.rest = ap (oldest (length p.rest)) (sym h.had_is ∙ p.made_is) ∙ oldest_back p.mine p.rest in
    all_since start words v h o flags pen.sets before p.rest p.others back (λ q. omega (arith, sums q)) now p.mine l.0 p.first l.3 (front_shown v now before g.shown) (front_done now before g.done)
    (λ q. omega (arith, sums q)) (each_front F p.mine p.rest (subst (Each F) p.made_is floors)) (word_front (IsSo flags pen.sets) l.0 l.1 (subst (switches.Each (IsSo flags pen.sets)) l.2 told.loads)) m
