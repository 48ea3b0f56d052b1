-- In the order of their turns orderly changes follow each other.
use Rattle.std.proofs.Common.{◌≡◌, refl, ℕ, zero, suc, add-one, ◌+◌, ◌<◌, ◌≤◌, ◌==◌, Bool, true, false, cond, nat_lt, List, [], ◌∷◌, length, map, take, get_or, sym, ◌∙◌, ap, subst, ◌⊎◌, inl, inr, arith, Option, Some, None}
use Rattle.std.specs.Prelude.{slice_get}
use Rattle.std.specs.Option.{option_map}
use Rattle.std.specs.List.Sorted.{IsPermutation, IsSorted}
use Rattle.std.specs.Ordering.{is_lt, nat_cmp, ordering_then}
use Rattle.std.specs.declared.cmp.Ordering.{Ordering}
use Rattle.std.specs.declared.cmp.Ordering.TheVariants.{Less, Equal, Greater}
use Rattle.std.proofs.lemmas.Bool.{cases_lt, eqb-false, eqb-true}
use Rattle.std.proofs.lemmas.Bool.Decides.{nat_tests}
use Rattle.std.proofs.lemmas.List.{length-map, take_all}
use Rattle.std.proofs.lemmas.List.Sorted.{IsPermutation-sym}
use Rattle.std.proofs.lemmas.Option.{get_or_from_slice_get, same_Some, slice_get-map, slice_get_within}
use Rattle.pfs_model.specs.Actions.{IsAmong}
use Rattle.pfs_model.specs.Chains.{Each, change_at}
use Rattle.pfs_check_contents.specs.declared.changes.Effect.{Effect}
use Rattle.pfs_check_contents.specs.declared.changes.Effect.TheVariants as effects
use Rattle.pfs_check_contents.specs.declared.changes.RowChange.{RowChange}
use Rattle.pfs_check_contents.specs.ChangeReplays.{AllFollow, HasGiven, IsReplayTold, change_of, done_of, last_in}
use Rattle.pfs_check_contents.specs.OrderlyChanges.{AreOrderly, ComesBefore, HasBefore, HasTaken}
use Rattle.pfs_check_contents.specs.declared.shelf.Shelf.{Shelf}
use Rattle.pfs_check_contents.specs.PlacedChanges.{ShelvedLaw}
use Rattle.pfs_check_contents.proofs.PickedPlaces.{IsPicked, among_at, at_among, picked_from, picked_there}
use Rattle.pfs_check_contents.proofs.ReplayedChanges.{IsLast, last_most, last_there}
use Rattle.pfs_check_contents.proofs.ReplaySteps.{replayed_more}
use Rattle.pfs_check_turns.specs.declared.turns.Step.{Step}
use Rattle.pfs_check_turns.specs.declared.turns.Turn.{Turn}
use Rattle.pfs_check_turns.specs.ReplayTurns.{AreAlong, AreInOrder, IsOrderOf, IsSortedTo, IsTurnOf, IsUpTo, place_of, step_of}
use Rattle.pfs_check_turns.specs.ToldContents.{AreContentsTold}
use Rattle.pfs_check_turns.proofs.KeyedLists.{AreSingle, IsOneOf, one_moved, single_moved, sorted_all}
use Rattle.pfs_check_turns.proofs.StepLists.{AreSteps}
use Rattle.pfs_check_turns.proofs.TurnLists.{comes_not, comes_up, up_same, up_self, up_trans}

-- one turn comes before another, or with it
pub record IsTurnTo (one other : Turn) : Type 0 where
  pub up : IsUpTo one.action one.at other.action other.at
  pub row : one.action ≡ other.action → one.at ≡ other.at → one.row ≤ other.row
  pub version : one.action ≡ other.action → one.at ≡ other.at → one.row ≡ other.row → one.version ≤ other.version

-- the change of a turn, and the one that makes the turn
pub record IsOwn (changes : List RowChange) (turn : Turn) : Type 0 where
  pub one : RowChange
  pub there : slice_get changes turn.place ≡ Some one
  pub row_is : turn.row ≡ one.row
  pub version_is : turn.version ≡ one.version
  pub reach : IsUpTo one.action turn.place turn.action turn.at
  pub maker : RowChange
  pub made : slice_get changes turn.at ≡ Some maker
  pub row_of : maker.row ≡ one.row
  pub version_of : maker.version ≤ one.version
  pub action_of : turn.action ≡ maker.action

pub record AreTurns (changes : List RowChange) (turns : List Turn) : Type 0 where
  pub own : (k : ℕ) (turn : Turn) → slice_get turns k ≡ Some turn → IsOwn changes turn
  pub covers : (place : ℕ) (one : RowChange) → slice_get changes place ≡ Some one → (turn : Turn) × IsOneOf turns turn × (turn.place ≡ place)
  pub single : AreSingle place_of turns
  pub rises : (j k : ℕ) (one other : Turn) → slice_get turns j ≡ Some one → slice_get turns k ≡ Some other → one.row ≡ other.row
      → one.version < other.version → IsUpTo one.action one.at other.action other.at

get_there : {A : Type 0} (xs : List A) (i : ℕ) → i < length xs → (x : A) × (slice_get xs i ≡ Some x)
get_there [] i l = absurd (omega (arith, l))
get_there (x ∷ xs) zero l = (x, refl)
get_there (x ∷ xs) (suc i) l = get_there xs i (omega (arith, l))

pub along_turns : (changes : List RowChange) (steps : List Step) (turns : List Turn) → AreSteps changes steps → AreInOrder steps → AreAlong steps turns
    → AreTurns changes turns
along_turns changes steps turns are order along = record {
  own = λ k turn g. own k turn (along.each k turn g);
  covers = covers;
  single = λ j k one other g h e.
      let mine : IsTurnOf steps j one = along.each j one g in
      let yours : IsTurnOf steps k other = along.each k other h in
      are.single j k mine.own yours.own mine.there yours.there (sym mine.place_is ∙ e ∙ yours.place_is);
  rises = λ j k one other g h r l. rises j k one other g h r l (along.each j one g) (along.each k other h) (cases_lt k j);
} where
  own : (k : ℕ) (turn : Turn) → IsTurnOf steps k turn → IsOwn changes turn
  own k turn is =
      let mine : (one : RowChange) × (slice_get changes is.own.place ≡ Some one) × (is.own ≡ step_of is.own.place one) = are.own k is.own is.there in
      let yours : (one : RowChange) × (slice_get changes is.made.place ≡ Some one) × (is.made ≡ step_of is.made.place one) = are.own is.maker is.made is.maker_is in
      let sorted : IsSortedTo is.made is.own = order is.maker k is.made is.own is.before is.maker_is is.there in
      let low : is.made.version ≤ is.own.version = sorted.version is.row_of in
      let of_made : is.made.version ≡ yours.0.version = ap (λ (z : Step). z.version) yours.2 in
      let of_own : is.own.version ≡ mine.0.version = ap (λ (z : Step). z.version) mine.2 in
      record {
        one = mine.0;
        there = ap (slice_get changes) is.place_is ∙ mine.1;
        row_is = is.row_is ∙ ap (λ (z : Step). z.row) mine.2;
        version_is = is.version_is ∙ of_own;
        reach = subst (λ z. IsUpTo z turn.place turn.action turn.at) (ap (λ (z : Step). z.action) mine.2)
            (subst (λ z. IsUpTo is.own.action z turn.action turn.at) (sym is.place_is) is.reach);
        maker = yours.0;
        made = ap (slice_get changes) is.at_of ∙ yours.1;
        row_of = sym (ap (λ (z : Step). z.row) yours.2) ∙ is.row_of ∙ ap (λ (z : Step). z.row) mine.2;
        version_of = omega (arith, low, of_made, of_own);
        action_of = is.action_of ∙ ap (λ (z : Step). z.action) yours.2;
      }

  covers : (place : ℕ) (one : RowChange) → slice_get changes place ≡ Some one → (turn : Turn) × IsOneOf turns turn × (turn.place ≡ place)
  covers place one g =
      let step : IsOneOf steps (step_of place one) = are.covers place one g in
      let many : length turns ≡ length steps = along.many in
      let within : step.0 < length steps = slice_get_within steps step.0 (step_of place one) step.1 in
      let turn : (x : Turn) × (slice_get turns step.0 ≡ Some x) = get_there turns step.0 (omega (arith, within, many)) in
      let is : IsTurnOf steps step.0 turn.0 = along.each step.0 turn.0 turn.1 in
      (turn.0, (step.0, turn.1), is.place_is ∙ ap (λ (z : Step). z.place) (same_Some is.own (step_of place one) (sym is.there ∙ step.1)))

  rises : (j k : ℕ) (one other : Turn) → slice_get turns j ≡ Some one → slice_get turns k ≡ Some other → one.row ≡ other.row → one.version < other.version
      → IsTurnOf steps j one → IsTurnOf steps k other → (k < j) ⊎ (j ≤ k) → IsUpTo one.action one.at other.action other.at
  rises j k one other g h r l mine yours (inl back) =
      let sorted : IsSortedTo yours.own mine.own = order k j yours.own mine.own (omega (arith, back)) yours.there mine.there in
      let same : yours.own.row ≡ mine.own.row = sym yours.row_is ∙ sym r ∙ mine.row_is in
      let low : yours.own.version ≤ mine.own.version = sorted.version same in
      absurd (omega (arith, low, l, mine.version_is, yours.version_is))
  rises j k one other g h r l mine yours (inr up) = along.rises j k one other up g h r

pub turns_moved : (changes : List RowChange) (xs ys : List Turn) → IsPermutation xs ys → AreTurns changes xs → AreTurns changes ys
turns_moved changes xs ys p turns = record {
  own = λ k turn g. let h : IsOneOf xs turn = back turn (k, g) in turns.own h.0 turn h.1;
  covers = λ place one g. let h : (turn : Turn) × IsOneOf xs turn × (turn.place ≡ place) = turns.covers place one g in (h.0, one_moved xs ys h.0 p h.1, h.2);
  single = single_moved place_of xs ys p turns.single;
  rises = λ j k one other g h r l.
      let i : IsOneOf xs one = back one (j, g) in let m : IsOneOf xs other = back other (k, h) in turns.rises i.0 m.0 one other i.1 m.1 r l;
} where
  back : (turn : Turn) → IsOneOf ys turn → IsOneOf xs turn
  back turn i = one_moved ys xs turn (IsPermutation-sym xs ys p) i

-- sorted turns
abbrev pub turn_cmp : Turn → Turn → Ordering
turn_cmp one other =
    ordering_then (nat_cmp one.action other.action)
    (ordering_then (nat_cmp one.at other.at)
    (ordering_then (nat_cmp one.row other.row)
    (ordering_then (nat_cmp one.version other.version) (nat_cmp one.place other.place))))

-- what a comparison says that isn't less
then_not : (m n : ℕ) (rest : Ordering) → is_lt (ordering_then (nat_cmp m n) rest) ≡ false → (n < m) ⊎ ((n ≡ m) × (is_lt rest ≡ false))
then_not m n rest e = on (nat_lt m n) (m == n) refl refl e where
  on : (t u : Bool) → nat_lt m n ≡ t → (m == n) ≡ u → is_lt (ordering_then (cond t Less (cond u Equal Greater)) rest) ≡ false
      → (n < m) ⊎ ((n ≡ m) × (is_lt rest ≡ false))
  on true u p q h = absurd (cc)
  on false true p q h = inr (sym (eqb-true m n q), h)
  on false false p q h = let low : n ≤ m = grind (arith, nat_tests) in let apart : m ≡ n → ⊥ = eqb-false m n q in inl (omega (arith, low, apart))

not_less : (a b : Turn) → is_lt (turn_cmp b a) ≡ false → IsTurnTo a b
not_less a b e = action (then_not b.action a.action _ e) where
  version : a.action ≡ b.action → a.at ≡ b.at → a.row ≡ b.row
      → (a.version < b.version) ⊎ ((a.version ≡ b.version) × (is_lt (nat_cmp b.place a.place) ≡ false)) → IsTurnTo a b
  version p q r (inl l) = record { up = inr (p, omega (arith, q)); row = λ x y. omega (arith, r); version = λ x y z. omega (arith, l) }
  version p q r (inr (v, h)) = record { up = inr (p, omega (arith, q)); row = λ x y. omega (arith, r); version = λ x y z. omega (arith, v) }

  row : a.action ≡ b.action → a.at ≡ b.at
      → (a.row < b.row) ⊎ ((a.row ≡ b.row) × (is_lt (ordering_then (nat_cmp b.version a.version) (nat_cmp b.place a.place)) ≡ false)) → IsTurnTo a b
  row p q (inl l) = record { up = inr (p, omega (arith, q)); row = λ x y. omega (arith, l); version = λ x y z. absurd (omega (arith, l, z)) }
  row p q (inr (r, h)) = version p q r (then_not b.version a.version _ h)

  at : a.action ≡ b.action
      → (a.at < b.at) ⊎ ((a.at ≡ b.at) × (is_lt (ordering_then (nat_cmp b.row a.row) (ordering_then (nat_cmp b.version a.version) (nat_cmp b.place a.place))) ≡ false))
      → IsTurnTo a b
  at p (inl l) = record { up = inr (p, omega (arith, l)); row = λ x y. absurd (omega (arith, l, y)); version = λ x y z. absurd (omega (arith, l, y)) }
  at p (inr (q, h)) = row p q (then_not b.row a.row _ h)

  action : (a.action < b.action) ⊎ ((a.action ≡ b.action)
      × (is_lt (ordering_then (nat_cmp b.at a.at) (ordering_then (nat_cmp b.row a.row) (ordering_then (nat_cmp b.version a.version) (nat_cmp b.place a.place)))) ≡ false))
      → IsTurnTo a b
  action (inl l) = record { up = inl l; row = λ x y. absurd (omega (arith, l, x)); version = λ x y z. absurd (omega (arith, l, x)) }
  action (inr (p, h)) = at p (then_not b.at a.at _ h)

turn_trans : (a b c : Turn) → IsTurnTo a b → IsTurnTo b c → IsTurnTo a c
turn_trans a b c p q = record { up = up; row = row; version = version } where
  up : IsUpTo a.action a.at c.action c.at
  up = up_trans a.action a.at b.action b.at c.action c.at p.up q.up

  same : a.action ≡ c.action → a.at ≡ c.at → (a.action ≡ b.action) × (a.at ≡ b.at)
  same e f = up_same a.action a.at b.action b.at p.up
      (subst (λ z. IsUpTo b.action b.at z a.at) (sym e) (subst (λ z. IsUpTo b.action b.at c.action z) (sym f) q.up))

  row : a.action ≡ c.action → a.at ≡ c.at → a.row ≤ c.row
  row e f =
      let s : (a.action ≡ b.action) × (a.at ≡ b.at) = same e f in
      let l : a.row ≤ b.row = p.row s.0 s.1 in
      let m : b.row ≤ c.row = q.row (sym s.0 ∙ e) (sym s.1 ∙ f) in
      omega (arith, l, m)

  version : a.action ≡ c.action → a.at ≡ c.at → a.row ≡ c.row → a.version ≤ c.version
  version e f r =
      let s : (a.action ≡ b.action) × (a.at ≡ b.at) = same e f in
      let l : a.row ≤ b.row = p.row s.0 s.1 in
      let m : b.row ≤ c.row = q.row (sym s.0 ∙ e) (sym s.1 ∙ f) in
      let v : a.version ≤ b.version = p.version s.0 s.1 (omega (arith, l, m, r)) in
      let w : b.version ≤ c.version = q.version (sym s.0 ∙ e) (sym s.1 ∙ f) (omega (arith, l, m, r)) in
      omega (arith, v, w)

abbrev pub AreSorted : List Turn → Type 0
AreSorted turns = (j k : ℕ) (one other : Turn) → j ≤ k → slice_get turns j ≡ Some one → slice_get turns k ≡ Some other → IsTurnTo one other

pub sorted_turns : (xs : List Turn) → IsSorted turn_cmp xs → AreSorted xs
sorted_turns xs sorted = sorted_all turn_cmp IsTurnTo not_less
    (λ a. record { up = up_self a.action a.at; row = λ x y. omega arith; version = λ x y z. omega arith }) turn_trans xs sorted

-- the changes that are replayed before a turn
abbrev pub done_before : List RowChange → List Turn → ℕ → List RowChange
done_before changes turns k = done_of changes (take k (map place_of turns))

order_get : (turns : List Turn) (k : ℕ) (turn : Turn) → slice_get turns k ≡ Some turn → slice_get (map place_of turns) k ≡ Some turn.place
order_get turns k turn g = slice_get-map place_of turns k ∙ ap (option_map place_of) g

get_take : {A : Type 0} (k : ℕ) (xs : List A) (i : ℕ) (x : A) → slice_get (take k xs) i ≡ Some x → (i < k) × (slice_get xs i ≡ Some x)
get_take zero xs i x g = absurd (cc)
get_take (suc k) [] i x g = absurd (cc)
get_take (suc k) (y ∷ xs) zero x g = (omega arith, g)
get_take (suc k) (y ∷ xs) (suc i) x g = let h : (i < k) × (slice_get xs i ≡ Some x) = get_take k xs i x g in let l : i < k = h.0 in (omega (arith, l), h.1)

take_get : {A : Type 0} (k : ℕ) (xs : List A) (i : ℕ) (x : A) → i < k → slice_get xs i ≡ Some x → slice_get (take k xs) i ≡ Some x
take_get zero xs i x l g = absurd (omega (arith, l))
take_get (suc k) [] i x l g = g
take_get (suc k) (y ∷ xs) zero x l g = g
take_get (suc k) (y ∷ xs) (suc i) x l g = take_get k xs i x (omega (arith, l)) g

-- of orderly changes
module _ (changes : List RowChange) (turns : List Turn) (orderly : AreOrderly changes) (are : AreTurns changes turns) (sorted : AreSorted turns) where
  -- those of a row stand in the order of their versions
  pub before_low : (j k : ℕ) (one other : Turn) → j < k → slice_get turns j ≡ Some one → slice_get turns k ≡ Some other → one.row ≡ other.row → one.version < other.version
  before_low j k one other l g h r = on (cases_lt one.version other.version) (cases_lt other.version one.version) where
    mine : IsOwn changes one
    mine = are.own j one g

    yours : IsOwn changes other
    yours = are.own k other h

    to : IsTurnTo one other
    to = sorted j k one other (omega (arith, l)) g h

    change_is : one.version ≡ other.version → change_of mine.one ≡ change_of yours.one
    change_is v =
        ap (λ z. change_at z mine.one.version) (sym mine.row_is ∙ r ∙ yours.row_is)
        ∙ ap (change_at yours.one.row) (sym mine.version_is ∙ v ∙ yours.version_is)

    on : (one.version < other.version) ⊎ (other.version ≤ one.version) → (other.version < one.version) ⊎ (one.version ≤ other.version)
        → one.version < other.version
    on (inl low) c = low
    on (inr high) (inl back) =
        let up : IsUpTo other.action other.at one.action one.at = are.rises k j other one h g (sym r) back in
        let same : (one.action ≡ other.action) × (one.at ≡ other.at) = up_same one.action one.at other.action other.at to.up up in
        let low : one.version ≤ other.version = to.version same.0 same.1 r in
        absurd (omega (arith, low, back))
    on (inr high) (inr most) =
        let place : one.place ≡ other.place = orderly.single one.place other.place mine.one yours.one mine.there yours.there (change_is (omega (arith, high, most))) in
        let index : j ≡ k = are.single j k one other g h place in
        absurd (omega (arith, l, index))

  pub low_before : (j k : ℕ) (one other : Turn) → slice_get turns j ≡ Some one → slice_get turns k ≡ Some other → one.row ≡ other.row → one.version < other.version → j < k
  low_before j k one other g h r l = on (cases_lt j k) (cases_lt k j) where
    on : (j < k) ⊎ (k ≤ j) → (k < j) ⊎ (j ≤ k) → j < k
    on (inl m) c = m
    on (inr m) (inl back) = let low : other.version < one.version = before_low k j other one back h g (sym r) in absurd (omega (arith, low, l))
    on (inr m) (inr n) =
        let e : j ≡ k = omega (arith, m, n) in
        let same : one ≡ other = same_Some one other (sym g ∙ ap (slice_get turns) e ∙ h) in
        let version : one.version ≡ other.version = ap (λ (z : Turn). z.version) same in
        absurd (omega (arith, version, l))

  -- the turn of a change by an action is at its own place
  own_up : (k : ℕ) (turn : Turn) (one : RowChange) → slice_get turns k ≡ Some turn → slice_get changes turn.place ≡ Some one → 0 < one.action
      → IsUpTo turn.action turn.at one.action turn.place
  own_up k turn one g there acted = on (cases_lt is.maker.version one.version) (cases_lt 0 is.maker.action) where
    is : IsOwn changes turn
    is = are.own k turn g

    same : is.one ≡ one
    same = same_Some is.one one (sym is.there ∙ there)

    row : is.maker.row ≡ one.row
    row = is.row_of ∙ ap (λ (z : RowChange). z.row) same

    by_action : (action : ℕ) → is.maker.action ≡ action → IsUpTo action turn.at one.action turn.place → IsUpTo turn.action turn.at one.action turn.place
    by_action action e up = subst (λ z. IsUpTo z turn.at one.action turn.place) (sym (is.action_of ∙ e)) up

    on : (is.maker.version < one.version) ⊎ (one.version ≤ is.maker.version) → (0 < is.maker.action) ⊎ (is.maker.action ≤ 0)
        → IsUpTo turn.action turn.at one.action turn.place
    on (inl low) (inl some) = by_action is.maker.action refl
        (comes_up is.maker.action turn.at one.action turn.place
        (orderly.rises turn.at turn.place is.maker one is.made there row low some acted))
    on (inl low) (inr none) = by_action is.maker.action refl (inl (omega (arith, none, acted)))
    on (inr high) c =
        let own : is.one.version ≡ one.version = ap (λ (z : RowChange). z.version) same in
        let most : is.maker.version ≤ is.one.version = is.version_of in
        let version : is.maker.version ≡ one.version = omega (arith, own, most, high) in
        let place : turn.at ≡ turn.place = orderly.single turn.at turn.place is.maker one is.made there
        (ap (λ z. change_at z is.maker.version) row ∙ ap (change_at one.row) version) in
        let act : is.maker.action ≡ one.action = ap (λ (z : RowChange). z.action) (same_Some is.maker one (sym is.made ∙ ap (slice_get changes) place ∙ there)) in
        inr (is.action_of ∙ act, omega (arith, place))

  -- what is given was taken before
  pub source_before : (j k : ℕ) (one other : Turn) (source next : RowChange) → slice_get turns j ≡ Some one → slice_get turns k ≡ Some other
      → slice_get changes one.place ≡ Some source → slice_get changes other.place ≡ Some next → 0 < source.action
      → ComesBefore source.action one.place next.action other.place → j < k
  source_before j k one other source next g h there here acted comes = on (cases_lt j k) where
    on : (j < k) ⊎ (k ≤ j) → j < k
    on (inl m) = m
    on (inr m) =
        let is : IsOwn changes other = are.own k other h in
        let same : is.one ≡ next = same_Some is.one next (sym is.there ∙ here) in
        let reach : IsUpTo next.action other.place other.action other.at = subst (λ (z : RowChange). IsUpTo z.action other.place other.action other.at) same is.reach in
        let back : IsTurnTo other one = sorted k j other one m h g in
        let own : IsUpTo one.action one.at source.action one.place = own_up j one source g there acted in
        absurd (comes_not source.action one.place next.action other.place comes
        (up_trans next.action other.place other.action other.at source.action one.place reach
        (up_trans other.action other.at one.action one.at source.action one.place back.up own)))

  -- the changes that are replayed before a turn, and no others
  among_before : (k : ℕ) (x : RowChange) → IsAmong x (done_before changes turns k)
      → (j : ℕ) × (turn : Turn) × (j < k) × (slice_get turns j ≡ Some turn) × (slice_get changes turn.place ≡ Some x)
  among_before k x i = on (picked_from changes (take k (map place_of turns)) [] x i) where
    on : IsPicked changes (take k (map place_of turns)) x ⊎ IsAmong x []
        → (j : ℕ) × (turn : Turn) × (j < k) × (slice_get turns j ≡ Some turn) × (slice_get changes turn.place ≡ Some x)
    on (inr n) = absurd n
    on (inl p) =
        let h : (j : ℕ) × (j < length (take k (map place_of turns))) × (slice_get (take k (map place_of turns)) j ≡ Some p.place) =
        among_at (take k (map place_of turns)) p.place p.picked in
        let low : (h.0 < k) × (slice_get (map place_of turns) h.0 ≡ Some p.place) = get_take k (map place_of turns) h.0 p.place h.2 in
        let within : h.0 < length (map place_of turns) = slice_get_within (map place_of turns) h.0 p.place low.1 in
        let many : length (map place_of turns) ≡ length turns = length-map turns place_of in
        let turn : (t : Turn) × (slice_get turns h.0 ≡ Some t) = get_there turns h.0 (omega (arith, within, many)) in
        let place : p.place ≡ turn.0.place = same_Some p.place turn.0.place (sym low.1 ∙ order_get turns h.0 turn.0 turn.1) in
        (h.0, turn.0, low.0, turn.1, ap (slice_get changes) (sym place) ∙ p.there)

  before_among : (j k : ℕ) (turn : Turn) (x : RowChange) → j < k → slice_get turns j ≡ Some turn → slice_get changes turn.place ≡ Some x
      → IsAmong x (done_before changes turns k)
  before_among j k turn x l g there =
      picked_there changes (take k (map place_of turns)) [] turn.place x
      (at_among (take k (map place_of turns)) j turn.place (take_get k (map place_of turns) j turn.place l (order_get turns j turn g))) there

  -- the last version of the row is the one before
  low_last : (k : ℕ) (turn : Turn) (one : RowChange) → slice_get turns k ≡ Some turn → slice_get changes turn.place ≡ Some one
      → last_in one.row (done_before changes turns k) < one.version
  low_last k turn one g there = on (last_there (done_before changes turns k) one.row) where
    is : IsOwn changes turn
    is = are.own k turn g

    same : is.one ≡ one
    same = same_Some is.one one (sym is.there ∙ there)

    positive : 0 < one.version
    positive = orderly.positive turn.place one there

    on : (last_in one.row (done_before changes turns k) ≡ 0) ⊎ IsLast (done_before changes turns k) one.row
        → last_in one.row (done_before changes turns k) < one.version
    on (inl e) = omega (arith, e, positive)
    on (inr l) =
        let h : (j : ℕ) × (other : Turn) × (j < k) × (slice_get turns j ≡ Some other) × (slice_get changes other.place ≡ Some l.one) = among_before k l.one l.there in
        let of : IsOwn changes h.1 = are.own h.0 h.1 h.3 in
        let own : of.one ≡ l.one = same_Some of.one l.one (sym of.there ∙ h.4) in
        let row : h.1.row ≡ turn.row =
        of.row_is ∙ ap (λ (z : RowChange). z.row) own ∙ l.row_is ∙ sym (is.row_is ∙ ap (λ (z : RowChange). z.row) same) in
        let low : h.1.version < turn.version = before_low h.0 k h.1 turn h.2 h.3 g row in
        let mine : of.one.version ≡ l.one.version = ap (λ (z : RowChange). z.version) own in
        let yours : is.one.version ≡ one.version = ap (λ (z : RowChange). z.version) same in
        omega (arith, low, of.version_is, is.version_is, mine, yours, l.version_is)

  high_last : (k : ℕ) (turn : Turn) (one : RowChange) → slice_get turns k ≡ Some turn → slice_get changes turn.place ≡ Some one
      → AllFollow (done_before changes turns k) → one.version ≤ last_in one.row (done_before changes turns k) + 1
  high_last k turn one g there follow = on (cases_lt 1 one.version) where
    is : IsOwn changes turn
    is = are.own k turn g

    same : is.one ≡ one
    same = same_Some is.one one (sym is.there ∙ there)

    on : (1 < one.version) ⊎ (one.version ≤ 1) → one.version ≤ last_in one.row (done_before changes turns k) + 1
    on (inr low) = omega (arith, low)
    on (inl more) =
        let has : HasBefore changes one = orderly.chained turn.place one there more in
        let h : (other : Turn) × IsOneOf turns other × (other.place ≡ has.place) = are.covers has.place has.before has.there in
        let here : slice_get changes h.0.place ≡ Some has.before = ap (slice_get changes) h.2 ∙ has.there in
        let of : IsOwn changes h.0 = are.own h.1.0 h.0 h.1.1 in
        let own : of.one ≡ has.before = same_Some of.one has.before (sym of.there ∙ here) in
        let row : h.0.row ≡ turn.row =
        of.row_is ∙ ap (λ (z : RowChange). z.row) own ∙ has.row_is ∙ sym (is.row_is ∙ ap (λ (z : RowChange). z.row) same) in
        let mine : of.one.version ≡ has.before.version = ap (λ (z : RowChange). z.version) own in
        let yours : is.one.version ≡ one.version = ap (λ (z : RowChange). z.version) same in
        let low : h.0.version < turn.version = omega (arith, of.version_is, is.version_is, mine, yours, has.version_is) in
        let index : h.1.0 < k = low_before h.1.0 k h.0 turn h.1.1 g row low in
        let most : has.before.version ≤ last_in has.before.row (done_before changes turns k) =
        last_most (done_before changes turns k) has.before follow (before_among h.1.0 k h.0 has.before index h.1.1 here) in
        let last : last_in has.before.row (done_before changes turns k) ≡ last_in one.row (done_before changes turns k) =
        ap (λ z. last_in z (done_before changes turns k)) has.row_is in
        omega (arith, most, last, has.version_is)

  has_given : (k : ℕ) (turn : Turn) (one : RowChange) (effect : Effect) → one.effect ≡ effect → slice_get turns k ≡ Some turn → slice_get changes turn.place ≡ Some one
      → AllFollow (done_before changes turns k) → HasGiven (done_before changes turns k) effect
  has_given k turn one (effects.Add amount) e g there follow = tt
  has_given k turn one effects.Take e g there follow = tt
  has_given k turn one (effects.Put words) e g there follow = tt
  has_given k turn one (effects.Give from version) e g there follow =
      let has : HasTaken changes from version one.action turn.place = orderly.sourced turn.place one from version there e in
      let h : (other : Turn) × IsOneOf turns other × (other.place ≡ has.place) = are.covers has.place has.source has.there in
      let here : slice_get changes h.0.place ≡ Some has.source = ap (slice_get changes) h.2 ∙ has.there in
      let index : h.1.0 < k = source_before h.1.0 k h.0 turn has.source one h.1.1 g here there has.acted
      (subst (λ z. ComesBefore has.source.action z one.action turn.place) (sym h.2) has.comes) in
      let most : has.source.version ≤ last_in has.source.row (done_before changes turns k) =
      last_most (done_before changes turns k) has.source follow (before_among h.1.0 k h.0 has.source index h.1.1 here) in
      let last : last_in has.source.row (done_before changes turns k) ≡ last_in from (done_before changes turns k) =
      ap (λ z. last_in z (done_before changes turns k)) has.row_is in
      omega (arith, most, last, has.version_is)

  all_follow : (k : ℕ) → k ≤ length turns → AllFollow (done_before changes turns k)
  all_follow zero l = tt
  all_follow (suc k) l = more (get_there turns k (omega (arith, l))) (all_follow k (omega (arith, l))) where
    more : (turn : Turn) × (slice_get turns k ≡ Some turn) → AllFollow (done_before changes turns k) → AllFollow (done_before changes turns (suc k))
    more (turn, g) follow =
        let is : IsOwn changes turn = are.own k turn g in
        let place : get_or (map place_of turns) k 0 ≡ turn.place = get_or_from_slice_get (map place_of turns) k turn.place 0 (order_get turns k turn g) in
        let within : k < length (map place_of turns) = slice_get_within (map place_of turns) k turn.place (order_get turns k turn g) in
        let low : last_in is.one.row (done_before changes turns k) < is.one.version = low_last k turn is.one g is.there in
        let high : is.one.version ≤ last_in is.one.row (done_before changes turns k) + 1 = high_last k turn is.one g is.there follow in
        let next : done_before changes turns (k + 1) ≡ is.one ∷ done_before changes turns k =
        replayed_more changes (map place_of turns) k 0 is.one within (ap (slice_get changes) place ∙ is.there) in
        subst AllFollow (sym (ap (done_before changes turns) (sym (add-one k)) ∙ next))
        (record { next = omega (arith, low, high); source = has_given k turn is.one is.one.effect refl g is.there follow }, follow)

each_there : (F : ℕ → Type 0) (xs : List Turn) → ((k : ℕ) (x : Turn) → slice_get xs k ≡ Some x → F x.place) → Each F (map place_of xs)
each_there F [] h = tt
each_there F (x ∷ xs) h = (h zero x refl, each_there F xs (λ k y g. h (suc k) y g))

pub turns_order : (changes : List RowChange) (turns : List Turn) → AreTurns changes turns → AreSorted turns → IsOrderOf changes (map place_of turns)
turns_order changes turns are sorted = record {
  within = each_there (λ place. place < length changes) turns (λ k turn g. let is : IsOwn changes turn = are.own k turn g in slice_get_within changes turn.place is.one is.there);
  covers = λ place l. covers place (get_there changes place l);
  follow = λ orderly. subst (λ z. AllFollow (done_of changes z)) (take_all (length turns) (map place_of turns) (most (length-map turns place_of)))
      (all_follow changes turns orderly are sorted (length turns) (omega arith));
} where
  most : length (map place_of turns) ≡ length turns → length (map place_of turns) ≤ length turns
  most e = omega (arith, e)

  covers : (place : ℕ) → (one : RowChange) × (slice_get changes place ≡ Some one) → IsAmong place (map place_of turns)
  covers place (one, g) =
      let h : (turn : Turn) × IsOneOf turns turn × (turn.place ≡ place) = are.covers place one g in
      at_among (map place_of turns) h.1.0 place (order_get turns h.1.0 h.0 h.1.1 ∙ ap Some h.2)

-- so a replay in their order tells the contents
pub contents_told : (changes : List RowChange) (order : List ℕ) (answer : Option Shelf) → ShelvedLaw → IsOrderOf changes order → IsReplayTold changes order answer
    → AreContentsTold changes answer
contents_told changes order None law is told = λ orderly. told (is.follow orderly)
contents_told changes order (Some shelf) law is told = λ given all made. law given all changes order shelf made is.covers told
