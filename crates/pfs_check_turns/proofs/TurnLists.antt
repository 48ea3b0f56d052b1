-- The turns of sorted steps: along a row they never go back.
use Rattle.std.proofs.Common.{◌≡◌, refl, ℕ, ◌+◌, ◌-◌, ◌<◌, ◌≤◌, ◌==◌, Bool, true, false, ◌&&◌, ◌||◌, cond, nat_lt, List, [], ◌∷◌, ◌++◌, length, sym, ◌∙◌, ap, subst, ◌⊎◌, inl, inr, arith, Some}
use Rattle.std.specs.Prelude.{slice_get}
use Rattle.std.proofs.lemmas.Bool.{cases_lt, eqb-false, eqb-true}
use Rattle.std.proofs.lemmas.Bool.Decides.{nat_tests}
use Rattle.std.proofs.lemmas.List.{length_push}
use Rattle.std.proofs.lemmas.Option.{slice_get_within}
use Rattle.pfs_check_contents.specs.OrderlyChanges.{ComesBefore}
use Rattle.pfs_check_turns.specs.declared.turns.Step.{Step}
use Rattle.pfs_check_turns.specs.declared.turns.Turn.{Turn}
use Rattle.pfs_check_turns.specs.ReplayTurns.{AreAlong, AreInOrder, IsSortedTo, IsTurnOf, IsUpTo, later_test, next_turn}
use Rattle.pfs_check_turns.proofs.StepLists.{get_last, get_pushed}

pub up_self : (action at : ℕ) → IsUpTo action at action at
up_self action at = inr (refl, omega arith)

pub up_trans : (a p b q c r : ℕ) → IsUpTo a p b q → IsUpTo b q c r → IsUpTo a p c r
up_trans a p b q c r (inl l) (inl m) = inl (omega (arith, l, m))
up_trans a p b q c r (inl l) (inr (e, m)) = inl (omega (arith, l, e))
up_trans a p b q c r (inr (e, l)) (inl m) = inl (omega (arith, e, m))
up_trans a p b q c r (inr (e, l)) (inr (f, m)) = inr (omega (arith, e, f), omega (arith, l, m))

pub up_same : (a p b q : ℕ) → IsUpTo a p b q → IsUpTo b q a p → (a ≡ b) × (p ≡ q)
up_same a p b q (inl l) (inl m) = absurd (omega (arith, l, m))
up_same a p b q (inl l) (inr (e, m)) = absurd (omega (arith, l, e))
up_same a p b q (inr (e, l)) (inl m) = absurd (omega (arith, e, m))
up_same a p b q (inr (e, l)) (inr (f, m)) = (e, omega (arith, l, m))

pub comes_up : (a p b q : ℕ) → ComesBefore a p b q → IsUpTo a p b q
comes_up a p b q (inl l) = inl l
comes_up a p b q (inr (e, l)) = inr (e, omega (arith, l))

pub comes_not : (a p b q : ℕ) → ComesBefore a p b q → IsUpTo b q a p → ⊥
comes_not a p b q (inl l) (inl m) = omega (arith, l, m)
comes_not a p b q (inl l) (inr (e, m)) = omega (arith, l, e)
comes_not a p b q (inr (e, l)) (inl m) = omega (arith, e, m)
comes_not a p b q (inr (e, l)) (inr (f, m)) = omega (arith, l, m)

-- the test, and the turn that it gives
is_later : (last : Turn) (step : Step) → later_test last step ≡ true → IsUpTo step.action step.place last.action last.at
is_later last step e = on (nat_lt step.action last.action) (step.action == last.action) refl refl e where
  on : (a b : Bool) → nat_lt step.action last.action ≡ a → (step.action == last.action) ≡ b → (a || (b && nat_lt step.place last.at)) ≡ true
      → IsUpTo step.action step.place last.action last.at
  on true b p q h = inl (grind (arith, nat_tests))
  on false true p q h = inr (eqb-true step.action last.action q, grind (arith, nat_tests))
  on false false p q h = absurd (cc)

not_later : (last : Turn) (step : Step) → later_test last step ≡ false → IsUpTo last.action last.at step.action step.place
not_later last step e = on (nat_lt step.action last.action) (step.action == last.action) refl refl e where
  on : (a b : Bool) → nat_lt step.action last.action ≡ a → (step.action == last.action) ≡ b → (a || (b && nat_lt step.place last.at)) ≡ false
      → IsUpTo last.action last.at step.action step.place
  on true b p q h = absurd (cc)
  on false true p q h = inr (sym (eqb-true step.action last.action q), grind (arith, nat_tests))
  on false false p q h =
      let low : last.action ≤ step.action = grind (arith, nat_tests) in
      let apart : step.action ≡ last.action → ⊥ = eqb-false step.action last.action q in
      inl (omega (arith, low, apart))

turn_reach : (last : Turn) (step : Step) → IsUpTo step.action step.place (next_turn last step).action (next_turn last step).at
turn_reach last step = on (last.row == step.row) (later_test last step) refl where
  on : (a b : Bool) → later_test last step ≡ b
      → IsUpTo step.action step.place (cond (a && b) last.action step.action) (cond (a && b) last.at step.place)
  on true true e = is_later last step e
  on true false e = up_self step.action step.place
  on false b e = up_self step.action step.place

turn_rises : (last : Turn) (step : Step) → last.row ≡ step.row → IsUpTo last.action last.at (next_turn last step).action (next_turn last step).at
turn_rises last step r = on (last.row == step.row) (later_test last step) (same last.row step.row r) refl where
  same : (m n : ℕ) → m ≡ n → (m == n) ≡ true
  same m n e = grind (arith, nat_tests)

  on : (a b : Bool) → a ≡ true → later_test last step ≡ b
      → IsUpTo last.action last.at (cond (a && b) last.action step.action) (cond (a && b) last.at step.place)
  on true true q e = up_self last.action last.at
  on true false q e = not_later last step e
  on false b q e = absurd (cc)

-- so many turns, and the last one
pub record AlongSoFar (steps : List Step) (turns : List Turn) (last : Turn) (k : ℕ) : Type 0 where
  pub many : length turns ≡ k
  pub each : (index : ℕ) (turn : Turn) → slice_get turns index ≡ Some turn → IsTurnOf steps index turn
  pub rises : (i j : ℕ) (one other : Turn) → i ≤ j → slice_get turns i ≡ Some one → slice_get turns j ≡ Some other
      → one.row ≡ other.row → IsUpTo one.action one.at other.action other.at
  pub first : k ≡ 0 → (last.action ≡ 0) × (last.at ≡ 0)
  pub last_is : 0 < k → slice_get turns (k - 1) ≡ Some last

pub none_along : (steps : List Step) (turns : List Turn) (last : Turn) (k : ℕ) → turns ≡ [] → k ≡ 0 → (last.action ≡ 0) × (last.at ≡ 0) → AlongSoFar steps turns last k
none_along steps turns last k e z zeros = record {
  many = ap length e ∙ sym z;
  each = λ index turn g. absurd (empty index turn (sym (ap (λ z. slice_get z index) e) ∙ g));
  rises = λ i j one other l g h r. absurd (empty i one (sym (ap (λ z. slice_get z i) e) ∙ g));
  first = λ q. zeros;
  last_is = λ l. absurd (omega (arith, l, z));
} where
  empty : (i : ℕ) (turn : Turn) → slice_get {X = Turn} [] i ≡ Some turn → ⊥
  empty i turn g = cc

own_turn : (steps : List Step) (k : ℕ) (step : Step) (turn : Turn) → slice_get steps k ≡ Some step → turn.row ≡ step.row → turn.version ≡ step.version
    → turn.place ≡ step.place → turn.action ≡ step.action → turn.at ≡ step.place → IsTurnOf steps k turn
own_turn steps k step turn g r v p a t = record {
  own = step;
  there = g;
  row_is = r;
  version_is = v;
  place_is = p;
  reach = inr (sym a, omega (arith, t));
  maker = k;
  made = step;
  maker_is = g;
  before = omega arith;
  row_of = refl;
  action_of = a;
  at_of = t;
}

pub along_more : (steps : List Step) (turns : List Turn) (last : Turn) (k : ℕ) (step : Step) → AreInOrder steps → slice_get steps k ≡ Some step
    → AlongSoFar steps turns last k → AlongSoFar steps (turns ++ next_turn last step ∷ []) (next_turn last step) (k + 1)
along_more steps turns last k step order g so = record {
  many = length_push turns (next_turn last step) ∙ ap (λ z. z + 1) so.many;
  each = λ index turn h. each index turn (get_pushed turns (next_turn last step) index turn h);
  rises = λ i j one other l p q r. rises i j one other l (get_pushed turns (next_turn last step) i one p) (get_pushed turns (next_turn last step) j other q) r;
  first = λ z. absurd (omega (arith, z));
  last_is = λ z. get_last turns (next_turn last step) ((k + 1) - 1) (omega (arith, so.many));
} where
  -- the last turn is of the row, where one before it is
  last_row : (i : ℕ) (one : Turn) → slice_get turns i ≡ Some one → one.row ≡ step.row → (last.row ≡ step.row) × IsUpTo one.action one.at last.action last.at
  last_row i one p r =
      let within : i < k = omega (arith, slice_get_within turns i one p, so.many) in
      let there : slice_get turns (k - 1) ≡ Some last = so.last_is (omega (arith, within)) in
      let mine : IsTurnOf steps i one = so.each i one p in
      let yours : IsTurnOf steps (k - 1) last = so.each (k - 1) last there in
      let low : IsSortedTo mine.own yours.own = order i (k - 1) mine.own yours.own (omega (arith, within)) mine.there yours.there in
      let high : IsSortedTo yours.own step = order (k - 1) k yours.own step (omega (arith, within)) yours.there g in
      let same : last.row ≡ step.row = omega (arith, low.row, high.row, mine.row_is, yours.row_is, r) in
      (same, so.rises i (k - 1) one last (omega (arith, within)) p there (r ∙ sym same))

  rises : (i j : ℕ) (one other : Turn) → i ≤ j → (slice_get turns i ≡ Some one) ⊎ ((i ≡ length turns) × (next_turn last step ≡ one))
      → (slice_get turns j ≡ Some other) ⊎ ((j ≡ length turns) × (next_turn last step ≡ other)) → one.row ≡ other.row
      → IsUpTo one.action one.at other.action other.at
  rises i j one other l (inl p) (inl q) r = so.rises i j one other l p q r
  rises i j one other l (inl p) (inr (e, q)) r =
      let own : step.row ≡ other.row = ap (λ (z : Turn). z.row) q in
      let is : (last.row ≡ step.row) × IsUpTo one.action one.at last.action last.at = last_row i one p (r ∙ sym own) in
      subst (λ (z : Turn). IsUpTo one.action one.at z.action z.at) q
      (up_trans one.action one.at last.action last.at (next_turn last step).action (next_turn last step).at is.1 (turn_rises last step is.0))
  rises i j one other l (inr (e, p)) (inl q) r = absurd (omega (arith, slice_get_within turns j other q, e, l))
  rises i j one other l (inr (e, p)) (inr (f, q)) r =
      subst (λ (z : Turn). IsUpTo one.action one.at z.action z.at) (sym p ∙ q) (up_self one.action one.at)

  -- the last turn is that of a step of the row
  kept : last.row ≡ step.row → IsUpTo step.action step.place last.action last.at → (turn : Turn) → turn.row ≡ step.row → turn.version ≡ step.version
      → turn.place ≡ step.place → turn.action ≡ last.action → turn.at ≡ last.at → IsTurnOf steps k turn
  kept same up turn r v p a t = on (cases_lt 0 k) where
    on : (0 < k) ⊎ (k ≤ 0) → IsTurnOf steps k turn
    on (inl some) =
        let there : slice_get turns (k - 1) ≡ Some last = so.last_is some in
        let old : IsTurnOf steps (k - 1) last = so.each (k - 1) last there in
        record {
          own = step;
          there = g;
          row_is = r;
          version_is = v;
          place_is = p;
          reach = subst (λ z. IsUpTo step.action step.place z turn.at) (sym a) (subst (λ z. IsUpTo step.action step.place last.action z) (sym t) up);
          maker = old.maker;
          made = old.made;
          maker_is = old.maker_is;
          before = omega (arith, old.before);
          row_of = old.row_of ∙ sym old.row_is ∙ same;
          action_of = a ∙ old.action_of;
          at_of = t ∙ old.at_of;
        }
    on (inr none) =
        let zeros : (last.action ≡ 0) × (last.at ≡ 0) = so.first (omega (arith, none)) in
        let own : (step.action ≡ last.action) × (step.place ≡ last.at) = at_first up zeros.0 zeros.1 in
        own_turn steps k step turn g r v p (a ∙ sym own.0) (t ∙ sym own.1) where
          at_first : IsUpTo step.action step.place last.action last.at → last.action ≡ 0 → last.at ≡ 0 → (step.action ≡ last.action) × (step.place ≡ last.at)
          at_first (inl l) x y = absurd (omega (arith, l, x))
          at_first (inr (e, l)) x y = (e, omega (arith, l, y))

  new : IsTurnOf steps k (next_turn last step)
  new = by (last.row == step.row) (later_test last step) refl refl where
    by : (a b : Bool) → (last.row == step.row) ≡ a → later_test last step ≡ b → IsTurnOf steps k (next_turn last step)
    by true true p q = kept (eqb-true last.row step.row p) (is_later last step q) (next_turn last step) refl refl refl
        (ap (λ z. cond z last.action step.action) (ap (λ z. z && later_test last step) p ∙ q))
        (ap (λ z. cond z last.at step.place) (ap (λ z. z && later_test last step) p ∙ q))
    by true false p q = own_turn steps k step (next_turn last step) g refl refl refl
        (ap (λ z. cond z last.action step.action) (ap (λ z. z && later_test last step) p ∙ q))
        (ap (λ z. cond z last.at step.place) (ap (λ z. z && later_test last step) p ∙ q))
    by false b p q = own_turn steps k step (next_turn last step) g refl refl refl
        (ap (λ z. cond z last.action step.action) (ap (λ z. z && later_test last step) p))
        (ap (λ z. cond z last.at step.place) (ap (λ z. z && later_test last step) p))

  each : (index : ℕ) (turn : Turn) → (slice_get turns index ≡ Some turn) ⊎ ((index ≡ length turns) × (next_turn last step ≡ turn)) → IsTurnOf steps index turn
  each index turn (inl h) = so.each index turn h
  each index turn (inr (e, q)) = subst (λ z. IsTurnOf steps index z) q (subst (λ z. IsTurnOf steps z (next_turn last step)) (sym (e ∙ so.many)) new)

pub all_along : (steps : List Step) (turns : List Turn) (last : Turn) (k : ℕ) → k ≡ length steps → AlongSoFar steps turns last k → AreAlong steps turns
all_along steps turns last k e so = record { many = so.many ∙ e; each = so.each; rises = so.rises }
