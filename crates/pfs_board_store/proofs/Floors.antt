-- No call is below what the actions gave that its actor knew as ended.
use Rattle.std.proofs.Common.{slice_index, ℕ, ◌≡◌, ◌≢◌, ◌+◌, ◌/◌, ◌==◌, ◌<◌, ◌≤◌, nat_lt, nat_le, ◌&&◌, not, Bool, true, false, cond, List, [], ◌∷◌, length, Option, Some, None, refl, ap, sym, ◌∙◌, subst, inl, inr, ⊎_elim, arith, eq-eqb}
use Rattle.std.proofs.lemmas.Bool.{cases_eq, eqb-true, and_parts, cases_Bool, leb-true, ltb-true, not-true}
use Rattle.pfs_lemmas.proofs.Options.{some_same}
use Rattle.pfs_board.specs.declared.view.Change.{Change}
use Rattle.pfs_board.specs.declared.view.Finished.{Finished}
use Rattle.pfs_board.specs.declared.view.Sight.{Sight}
use Rattle.pfs_board.specs.declared.view.View.{View}
use Rattle.pfs_board.specs.History.{Each, Some_of, IsChain, version, version_of, step_of, level}
use Rattle.pfs_board.specs.Rule.{IsRead, IsSight}
use Rattle.pfs_board.specs.WholeSeats.{History}
use Rattle.pfs_board.proofs.HistoryFacts.{each_map, each_both, below_all, afters_below, level_put, level_release, step_put, step_release}
use Rattle.pfs_levels.specs.declared.answers.Added.TheVariants.{Counted, Held}
use Rattle.pfs_levels.specs.declared.answers.RingPut.TheVariants.{Done, Busy, Late}
use Rattle.pfs_levels.specs.Calls.{Call, Adds, Rings, Reads, Loads, Draws, Takes, Puts, Frees, Sets, Enters, Leaves, Meets, Start, action_in, after_in, hand_in}
use Rattle.pfs_levels.specs.JointCalls.{total, one_if}
use Rattle.pfs_levels.specs.CallOrder.{Mark, mark, is_past, above, reaching, freed, AreFloored, top_in, AreRising}
use Rattle.pfs_rows.specs.declared.table.Seen.TheVariants.{Whole, Free}
use Rattle.pfs_rows.specs.declared.table.Seen.TheVariants as sees
use Rattle.pfs_board_store.specs.RootActors.{marks_in}
use Rattle.pfs_board_store.specs.Ties.{IsMade, IsTied, IsFinished, IsSighted, AreShown}
use Rattle.pfs_board_store.proofs.ActionLabels.{some_each}
use Rattle.pfs_board_store.proofs.ViewCorners.{away_if, here_if, none_some}

abbrev pub mark_of : Change → Mark
mark_of p = mark p.row p.version p.puts p.action p.after

zero_if : (b : Bool) → (b ≡ true → ⊥) → one_if b ≡ 0
zero_if true f = absurd (f refl)
zero_if false f = refl

-- what no change is, no mark is; and what some change is, some mark is
pub none_marked : (g : Mark → Bool) (log : List Change) → Each (λ (p : Change). g (mark_of p) ≡ true → ⊥) log → total (λ m. one_if (g m)) (marks_in log) ≡ 0
unfolding marks_in total
none_marked g [] e = refl
none_marked g (p ∷ ps) e = omega (arith, zero_if (g (mark_of p)) e.0, none_marked g ps e.1)

pub some_marked : (g : Mark → Bool) (log : List Change) → Some_of (λ (p : Change). g (mark_of p) ≡ true) log → 0 < total (λ m. one_if (g m)) (marks_in log)
unfolding marks_in total
some_marked g [] s = absurd s
some_marked g (p ∷ ps) (inl e) = omega (arith, ap one_if e)
some_marked g (p ∷ ps) (inr s) = omega (arith, some_marked g ps s)

past_true : (row after : ℕ) (p : Change) → is_past row after (mark_of p) ≡ true → (p.row ≡ row) × (0 < p.action) × (p.action ≤ after)
past_true row after p e =
    let x = and_parts ((p.row == row) && nat_lt 0 p.action) (nat_le p.action after) e in
    let y = and_parts (p.row == row) (nat_lt 0 p.action) x.0 in
    (eqb-true p.row row y.0, ltb-true 0 p.action y.1, leb-true p.action after x.1)

-- a fact of each change of the row that an action up to `after` made
abbrev pub Past : ℕ → ℕ → (Change → Type 0) → List Change → Type 0
Past row after P log = Each (λ (p : Change). p.row ≡ row → 0 < p.action → p.action ≤ after → P p) log

pub past_map : (row after fewer : ℕ) (P Q : Change → Type 0) → fewer ≤ after → ((p : Change) → P p → Q p) → (log : List Change) → Past row after P log → Past row fewer Q log
past_map row after fewer P Q low f log e =
    let A : Change → Type 0 = λ p. p.row ≡ row → 0 < p.action → p.action ≤ after → P p in
    let B : Change → Type 0 = λ p. p.row ≡ row → 0 < p.action → p.action ≤ fewer → Q p in
    let step : (p : Change) → A p → B p = λ p g a b c. f p (g a b (omega (arith, c, low))) in
    each_map A B step log e

pub above_none : (log : List Change) (row k after : ℕ) → Past row after (λ p. p.version ≤ k) log → above (marks_in log) row k after ≡ 0
above_none log row k after e =
    let g : Mark → Bool = λ m. is_past row after m && nat_lt k m.version in
    let A : Change → Type 0 = λ p. p.row ≡ row → 0 < p.action → p.action ≤ after → p.version ≤ k in
    let B : Change → Type 0 = λ p. g (mark_of p) ≡ true → ⊥ in
    let step : (p : Change) → A p → B p = λ p f t.
    let x = and_parts (is_past row after (mark_of p)) (nat_lt k p.version) t in
    let y = past_true row after p x.0 in
    omega (arith, f y.0 y.1 y.2, ltb-true k p.version x.1) in
    none_marked g log (each_map A B step log e)

pub reaching_none : (log : List Change) (row k after : ℕ) → Past row after (λ p. p.version < k) log → reaching (marks_in log) row k after ≡ 0
reaching_none log row k after e =
    let g : Mark → Bool = λ m. is_past row after m && nat_le k m.version in
    let A : Change → Type 0 = λ p. p.row ≡ row → 0 < p.action → p.action ≤ after → p.version < k in
    let B : Change → Type 0 = λ p. g (mark_of p) ≡ true → ⊥ in
    let step : (p : Change) → A p → B p = λ p f t.
    let x = and_parts (is_past row after (mark_of p)) (nat_le k p.version) t in
    let y = past_true row after p x.0 in
    omega (arith, f y.0 y.1 y.2, leb-true k p.version x.1) in
    none_marked g log (each_map A B step log e)

pub freed_none : (log : List Change) (row k after : ℕ) → Past row after (λ p. level p ≤ k) log → freed (marks_in log) row k after ≡ 0
freed_none log row k after e =
    let g : Mark → Bool = λ m. is_past row after m && not m.puts && nat_le k m.version in
    let A : Change → Type 0 = λ p. p.row ≡ row → 0 < p.action → p.action ≤ after → level p ≤ k in
    let B : Change → Type 0 = λ p. g (mark_of p) ≡ true → ⊥ in
    let step : (p : Change) → A p → B p = λ p f t.
    let x = and_parts (is_past row after (mark_of p) && not p.puts) (nat_le k p.version) t in
    let z = and_parts (is_past row after (mark_of p)) (not p.puts) x.0 in
    let y = past_true row after p z.0 in
    let l : level p ≡ p.version + 1 = level_release p (not-true p.puts z.1) in
    omega (arith, f y.0 y.1 y.2, leb-true k p.version x.1, l) in
    none_marked g log (each_map A B step log e)

pub level_up : (p : Change) → p.version ≤ level p
level_up p = ⊎_elim (λ e. omega (arith, level_put p e)) (λ e. omega (arith, level_release p e)) (cases_Bool p.puts)

-- a change of an action that had ended before the other is below it, where that is a publication
abbrev pub Below : Change → Change → Type 0
Below p e = e.row ≡ p.row → 0 < e.action → e.action ≤ p.after → e.version + step_of p ≤ p.version

pub all_below : (start : List ℕ) (log : List Change) → IsChain start log → Each (λ (p : Change). Each (Below p) log) log
all_below start [] c = tt
all_below start (q ∷ ps) c =
    let f = c.0 in
    let A : Change → Type 0 = λ e. e.row ≡ q.row → version_of e ≤ version ps q.row in
    let step : (e : Change) → A e → Below q e = λ e low row _ _. omega (arith, low row, f.numbered) in
    let D : Change → Type 0 = λ p. p.after ≤ version ps 0 in
    let P : Change → Type 0 = λ p. Each (Below p) ps in
    let Q : Change → Type 0 = λ p. Each (Below p) (q ∷ ps) in
    let late : (p : Change) → D p → Below p q = λ p d row some low. absurd (⊎_elim (λ z. omega (arith, z, some)) (λ z. omega (arith, z, low, d)) f.inside) in (
      (late q f.after_it, each_map A (Below q) step ps (below_all start ps q.row c.1)),
      each_both D P Q (λ p d e. (late p d, e)) ps (afters_below start ps c.1) (all_below start ps c.1),
    )

-- the newest action that an actor knows as ended is not above the version of row 0 that it named
top_up : (r k : ℕ) (calls : List Call) → top_in calls r ≤ k → top_in calls 0 ≤ cond (r == 0) k (top_in calls 0)
top_up r k calls low = elim (cases_eq r 0) [
  | inl e ↦ rw (eq-eqb r 0 e) (omega (arith, low, ap (top_in calls) e))
  | inr e ↦ omega (arith, away_if r 0 k (top_in calls 0) (λ z. e (sym z)))
]

pub after_top : (calls : List Call) → AreRising calls → after_in calls ≤ top_in calls 0
after_top [] r = omega arith
after_top (Adds row amount (Counted q k) ∷ calls) r = omega (arith, after_top calls r.1, top_up q k calls (omega (arith, r.0)))
after_top (Adds row amount (Held q first second) ∷ calls) r = omega (arith, after_top calls r.1, top_up q (second / 4) calls (omega (arith, r.0.0, r.0.1)))
after_top (Rings row put (Done k) ∷ calls) r = omega (arith, after_top calls r.1, top_up row k calls (omega (arith, r.0)))
after_top (Rings row put (Busy first second) ∷ calls) r = omega (arith, after_top calls r.1, top_up row (second / 4) calls (omega (arith, r.0.0, r.0.1)))
after_top (Rings row put (Late ticket k) ∷ calls) r = omega (arith, after_top calls r.1, top_up row k calls r.0)
after_top (Reads row (Whole k found) ∷ calls) r = omega (arith, after_top calls r.1, top_up row k calls r.0)
after_top (Reads row (Free n) ∷ calls) r = omega (arith, after_top calls r.1, top_up row (n / 4) calls r.0)
after_top (Reads row (sees.Busy first second) ∷ calls) r = omega (arith, after_top calls r.1, top_up row (second / 4) calls (omega (arith, r.0.0, r.0.1)))
after_top (Loads at k found ∷ calls) r = after_top calls r.1
after_top (Draws kind ticket ∷ calls) r = after_top calls r.1
after_top (Meets versions ∷ calls) r = after_top calls r.1
after_top (Takes row k found ∷ calls) r = omega (arith, after_top calls r.1, top_up row k calls r.0)
after_top (Puts row put k ∷ calls) r = omega (arith, after_top calls r.1, top_up row k calls (omega (arith, r.0)))
after_top (Frees row k ∷ calls) r = omega (arith, after_top calls r.1, top_up row k calls r.0)
after_top (Sets at to k ∷ calls) r = after_top calls r.1
after_top (Enters label labels ∷ calls) r = omega arith
after_top (Leaves ∷ calls) r = omega arith

module _ (start words : List ℕ) (v : View) (h : History start words v) (sets : List Mark) where
  abbrev log : List Change
  log = h.t.log

  abbrev Under : Change → Type 0
  Under p = Each (Below p) h.t.log

  -- a row that is in hand was taken at no version below
  abbrev Owed : List Call → Type 0
  Owed calls = (row : ℕ) → 0 < row → (k : ℕ) → hand_in calls row ≡ Some k → Past row (after_in calls) (λ p. p.version ≤ k) log

  put_floor : (begun : Start) (action after r k : ℕ) (p : Change) → IsMade begun action after r k true p → Under p → Past r after (λ e. e.version < k) log
  put_floor begun action after r k p m u =
      let B : Change → Type 0 = λ e. e.row ≡ r → 0 < e.action → e.action ≤ after → e.version < k in
      let step : (e : Change) → Below p e → B e = λ e f row some low. omega (arith, f (row ∙ sym m.row_is) some (omega (arith, low, m.after_is)), step_put p m.puts_is, m.version_is) in
      each_map (Below p) B step log u

  free_floor : (begun : Start) (action after r k : ℕ) (p : Change) → IsMade begun action after r k false p → Under p → Past r after (λ e. e.version ≤ k) log
  free_floor begun action after r k p m u =
      let B : Change → Type 0 = λ e. e.row ≡ r → 0 < e.action → e.action ≤ after → e.version ≤ k in
      let step : (e : Change) → Below p e → B e = λ e f row some low. omega (arith, f (row ∙ sym m.row_is) some (omega (arith, low, m.after_is)), step_release p m.puts_is, m.version_is) in
      each_map (Below p) B step log u

  -- what a read shows
  pub read_floor : (begun : Start) (row k action after : ℕ) (f : Finished) → IsFinished begun row k action after f → IsRead start h.t f → Past row after (λ e. level e ≤ k) log
  read_floor begun row k action after f m r =
      let A : Change → Type 0 = λ e. e.row ≡ f.row → 0 < e.action → e.action ≤ f.after → level e ≤ f.version in
      let B : Change → Type 0 = λ e. e.row ≡ row → 0 < e.action → e.action ≤ after → level e ≤ k in
      let step : (e : Change) → A e → B e = λ e g at some low. omega (arith, g (at ∙ sym m.row_is) some (omega (arith, low, m.after_is)), m.version_is) in
      each_map A B step log r.floor.actions

  -- and a row that was seen free
  free_sight_floor : (begun : Start) (row n action after : ℕ) (x : Sight) → IsSighted begun row n n action after x → IsSight start h.t x → Past row after (λ e. e.version ≤ n / 4) log
  free_sight_floor begun row n action after x m r =
      let A : Change → Type 0 = λ e. e.row ≡ x.row → 0 < e.action → e.action ≤ x.after → e.version ≤ x.first / 4 in
      let B : Change → Type 0 = λ e. e.row ≡ row → 0 < e.action → e.action ≤ after → e.version ≤ n / 4 in
      let step : (e : Change) → A e → B e = λ e g at some low. subst (λ z. e.version ≤ z / 4) m.first_is (g (at ∙ sym m.row_is) some (omega (arith, low, m.after_is))) in
      each_map A B step log r.one.known.floor.actions

  owed_taken : (row k : ℕ) (found : List ℕ) (calls : List Call) → hand_in calls row ≡ None → Owed (Takes row k found ∷ calls) → Owed calls
  owed_taken row k found calls none w q some j e = elim (cases_eq q row) [
    | inl i ↦ absurd (none_some j (sym (ap (hand_in calls) i ∙ none) ∙ e))
    | inr n ↦ w q some j (away_if row q (Some k) (hand_in calls q) n ∙ e)
  ]

  owed_left : (row k : ℕ) (calls : List Call) → hand_in calls row ≡ Some k → Past row (after_in calls) (λ p. p.version ≤ k) log
      → ((q : ℕ) → 0 < q → q ≢ row → (j : ℕ) → hand_in calls q ≡ Some j → Past q (after_in calls) (λ p. p.version ≤ j) log) → Owed calls
  owed_left row k calls mine low w q some j e = elim (cases_eq q row) [
    | inl i ↦ let is : k ≡ j = some_same k j (sym mine ∙ sym (ap (hand_in calls) i) ∙ e) in
        let P : ℕ → Type 0 = λ z. Past z (after_in calls) (λ p. p.version ≤ j) log in
        let Q : ℕ → Type 0 = λ z. Past row (after_in calls) (λ p. p.version ≤ z) log in
        subst P (sym i) (subst Q is low)
    | inr n ↦ w q some n j e
  ]

  -- beginning or ending an action leaves the other rows in hand, and more actions have ended
  owed_first : (calls : List Call) (x : Option ℕ) (later : ℕ) → after_in calls ≤ later → ((row : ℕ) → 0 < row → (k : ℕ) → cond (0 == row) x (hand_in calls row) ≡ Some k → Past row later (λ p. p.version ≤ k) log) → Owed calls
  owed_first calls x later up w q some j e =
      past_map q later (after_in calls) (λ p. p.version ≤ j) (λ p. p.version ≤ j) up (λ p d. d) log (w q some j (away_if 0 q x (hand_in calls q) (λ z. absurd (omega (arith, some, z))) ∙ e))

  pub floored : (begun : Start) (calls : List Call) (made : List Change) → IsTied begun calls made → AreShown begun v.reads v.sights v.entered calls → AreRising calls → Each Under made → AreFloored [] sets calls → Owed calls
      → AreFloored (marks_in log) sets calls
  floored begun [] made t s r u f w = tt
  floored begun (Adds row amount (Counted q k) ∷ calls) [] t s r u f w = absurd t
  floored begun (Adds row amount (Counted q k) ∷ calls) (p ∷ made) t s r u f w = (reaching_none log q k (after_in calls) (put_floor begun _ _ q k p t.1 u.0), floored begun calls made t.3 s.1 r.1 u.1 f.1 w)
  floored begun (Adds row amount (Held q first second) ∷ calls) made t s r u f w = (tt, floored begun calls made t s.1 r.1 u f.1 w)
  floored begun (Rings row put (Done k) ∷ calls) [] t s r u f w = absurd t
  floored begun (Rings row put (Done k) ∷ calls) (p ∷ made) t s r u f w = (reaching_none log row k (after_in calls) (put_floor begun _ _ row k p t.1 u.0), floored begun calls made t.3 s.1 r.1 u.1 f.1 w)
  floored begun (Rings row put (Busy first second) ∷ calls) made t s r u f w = (tt, floored begun calls made t s.1 r.1 u f.1 w)
  floored begun (Rings row put (Late ticket k) ∷ calls) made t s r u f w =
      let P : Finished → Type 0 = λ e. IsFinished begun row k (action_in calls) (after_in calls) e × (slice_index e.content 15 ≡ ticket + 1) in
      let R : Type 0 = Past row (after_in calls) (λ e. e.version ≤ k) log in
      let low : R = some_each P (IsRead start h.t) R (λ e m d. past_map row (after_in calls) (after_in calls) (λ e. level e ≤ k) (λ e. e.version ≤ k) (omega arith) (λ e d. omega (arith, d, level_up e)) log (read_floor begun row k _ _ e m.0 d)) v.reads s.0.1 h.fits.reads in
      (above_none log row k (after_in calls) low, floored begun calls made t s.1 r.1 u f.1 w)
  floored begun (Reads row (Whole k found) ∷ calls) made t s r u f w =
      let P : Finished → Type 0 = λ e. IsFinished begun row k (action_in calls) (after_in calls) e × (e.content ≡ found) in
      let R : Type 0 = Past row (after_in calls) (λ e. level e ≤ k) log in
      let low : R = some_each P (IsRead start h.t) R (λ e m d. read_floor begun row k _ _ e m.0 d) v.reads s.0.1 h.fits.reads in
      let high : Past row (after_in calls) (λ e. e.version ≤ k) log = past_map row (after_in calls) (after_in calls) (λ e. level e ≤ k) (λ e. e.version ≤ k) (omega arith) (λ e d. omega (arith, d, level_up e)) log low in
      ((above_none log row k (after_in calls) high, freed_none log row k (after_in calls) low), floored begun calls made t s.1 r.1 u f.1 w)
  floored begun (Reads row (Free n) ∷ calls) made t s r u f w =
      let P : Sight → Type 0 = IsSighted begun row n n (action_in calls) (after_in calls) in
      let R : Type 0 = Past row (after_in calls) (λ e. e.version ≤ n / 4) log in
      let low : R = some_each P (IsSight start h.t) R (λ x m d. free_sight_floor begun row n _ _ x m d) v.sights s.0.2 h.fits.sights in
      (above_none log row (n / 4) (after_in calls) low, floored begun calls made t s.1 r.1 u f.1 w)
  floored begun (Reads row (sees.Busy first second) ∷ calls) made t s r u f w = (tt, floored begun calls made t s.1 r.1 u f.1 w)
  floored begun (Loads at k found ∷ calls) made t s r u f w = (f.0, floored begun calls made t s.1 r.1 u f.1 w)
  floored begun (Draws kind ticket ∷ calls) made t s r u f w = (tt, floored begun calls made t s.1 r.1 u f.1 w)
  floored begun (Meets versions ∷ calls) made t s r u f w = (f.0, floored begun calls made t s.1 r.1 u f.1 w)
  floored begun (Takes row k found ∷ calls) made t s r u f w =
      (above_none log row k (after_in calls) (w row t.0 k (here_if row (Some k) (hand_in calls row))), floored begun calls made t.2 s.1 r.1 u f.1 (owed_taken row k found calls t.1 w))
  floored begun (Puts row put k ∷ calls) [] t s r u f w = absurd t
  floored begun (Puts row put k ∷ calls) (p ∷ made) t s r u f w =
      let n : ℕ = t.3.0 in
      let under : Past row (after_in calls) (λ e. e.version < k) log = put_floor begun _ _ row k p t.1 u.0 in
      let low : Past row (after_in calls) (λ e. e.version ≤ n) log = past_map row (after_in calls) (after_in calls) (λ e. e.version < k) (λ e. e.version ≤ n) (omega arith) (λ e d. omega (arith, d, t.3.2)) log under in
      (reaching_none log row k (after_in calls) under, floored begun calls made t.4 s.1 r.1 u.1 f.1 (owed_left row n calls t.3.1 low (λ q some apart j e. w q some j (away_if row q None (hand_in calls q) apart ∙ e))))
  floored begun (Frees row k ∷ calls) [] t s r u f w = absurd t
  floored begun (Frees row k ∷ calls) (p ∷ made) t s r u f w =
      let low : Past row (after_in calls) (λ e. e.version ≤ k) log = free_floor begun _ _ row k p t.1 u.0 in
      (above_none log row k (after_in calls) low, floored begun calls made t.4 s.1 r.1 u.1 f.1 (owed_left row k calls t.3 low (λ q some apart j e. w q some j (away_if row q None (hand_in calls q) apart ∙ e))))
  floored begun (Sets at to k ∷ calls) made t s r u f w = (f.0, floored begun calls made t.1 s.1 r.1 u f.1 w)
  floored begun (Enters label labels ∷ calls) made t s r u f w = (tt, floored begun calls made t s.1 r.1 u f.1 (owed_first calls (Some (length labels)) (length labels) (omega (arith, after_top calls r.1, r.0)) w))
  floored begun (Leaves ∷ calls) [] t s r u f w = absurd t
  floored begun (Leaves ∷ calls) (p ∷ made) t s r u f w = (tt, floored begun calls made t.3 s.1 r.1 u.1 f.1 (owed_first calls None (action_in calls) (omega (arith, after_top calls r.1, r.0)) w))
