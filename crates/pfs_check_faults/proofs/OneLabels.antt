-- The actions of a report have their labels in one way.
use Rattle.std.proofs.Common.{◌≡◌, refl, ℕ, zero, suc, ◌+◌, ◌-◌, ◌<◌, ◌==◌, Bool, true, false, ◌&&◌, cond, nat_lt, nat_le, List, [], ◌∷◌, ◌++◌, length, slice_get, Option, Some, None, sym, ◌∙◌, ap, subst, arith}
use Rattle.std.proofs.lemmas.Bool.Decides.{nat_tests}
use Rattle.pfs_board.specs.declared.view.Label.{Label}
use Rattle.pfs_event.specs.declared.entry.Entry.{Entry}
use Rattle.pfs_event.specs.declared.entry.Entry.TheVariants as says
use Rattle.pfs_model.proofs.ChainGrowth.{times_append}
use Rattle.pfs_model.specs.declared.changes.Change.{Change}
use Rattle.pfs_model.specs.Actions.{numbers_by}
use Rattle.pfs_model.specs.Chains.{AreChained, action_change, change_at, each_of, is_of, is_that, times}
use Rattle.pfs_model.specs.EntryPlaces.{Placed, up_to_phase}
use Rattle.pfs_runs.specs.Labels.{AreLabels}
use Rattle.pfs_check_faults.proofs.ChainFacts.{all_phases, that_is, top}
use Rattle.pfs_check_faults.proofs.MemberCounts.{self_is}

item : {A : Type 0} → A → Option A → A
item d None = d
item d (Some a) = a

some_same : {A : Type 0} (d x y : A) → Some x ≡ Some y → x ≡ y
unfolding item
some_same d x y e = ap (item d) e

-- two lists with the same elements at the same places
same_items : {A : Type 0} (xs ys : List A) → length xs ≡ length ys
    → ((i : ℕ) → i < length xs → slice_get xs i ≡ slice_get ys i) → xs ≡ ys
same_items [] [] e h = refl
same_items [] (y ∷ ys) e h = absurd (omega arith)
same_items (x ∷ xs) [] e h = absurd (omega arith)
same_items (x ∷ xs) (y ∷ ys) e h =
    ap (λ z. z ∷ xs) (some_same x x y (h 0 (omega arith)))
    ∙ ap (λ z. y ∷ z) (same_items xs ys (omega arith) (λ i l. h (suc i) (omega arith)))

get_behind : {A : Type 0} (xs ys : List A) (i n : ℕ) → n ≡ length xs + i → slice_get (xs ++ ys) n ≡ slice_get ys i
get_behind [] ys i n e = ap (slice_get ys) (omega (arith, e))
get_behind (x ∷ xs) ys i zero e = absurd (omega (arith, e))
get_behind (x ∷ xs) ys i (suc n) e = get_behind xs ys i n (omega (arith, e))

-- where a number stands in its session
pub record IsIn (all : List Placed) (wanted : Change) : Type 0 where
  pub session : ℕ
  pub at : ℕ
  pub is : slice_get (numbers_by session all) at ≡ Some wanted

-- among one or none
front_in : (wanted : Change) (cs : List Change) → 0 < times (is_that wanted) cs → (at : ℕ) × (slice_get cs at ≡ Some wanted)
front_in wanted [] h = absurd (omega arith)
front_in wanted (c ∷ cs) h = at (is_that wanted c) refl h (front_in wanted cs) where
  at : (b : Bool) → is_that wanted c ≡ b → 0 < cond {A = ℕ} b 1 0 + times (is_that wanted) cs
      → (0 < times (is_that wanted) cs → (i : ℕ) × (slice_get cs i ≡ Some wanted))
      → (i : ℕ) × (slice_get (c ∷ cs) i ≡ Some wanted)
  at true e h go = (0, ap (λ z. Some z) (that_is wanted c e))
  at false e h go = let rest : (i : ℕ) × (slice_get cs i ≡ Some wanted) = go (omega arith) in (suc rest.0, rest.1)

get_front : {A : Type 0} (xs ys : List A) (i : ℕ) (x : A) → slice_get xs i ≡ Some x → slice_get (xs ++ ys) i ≡ Some x
get_front [] ys i x e = absurd (cc)
get_front (y ∷ xs) ys zero x e = e
get_front (y ∷ xs) ys (suc i) x e = get_front xs ys i x e

found_in : (all : List Placed) (wanted : Change) → 0 < times (is_that wanted) (each_of action_change all) → IsIn all wanted
found_in [] wanted h = absurd (omega arith)
found_in (p ∷ ps) wanted h =
    at (nat_lt 0 (times (is_that wanted) (action_change p.entry))) refl (found_in ps wanted)
    (times_append (is_that wanted) (action_change p.entry) (each_of action_change ps)) where
      at : (b : Bool) → nat_lt 0 (times (is_that wanted) (action_change p.entry)) ≡ b
          → (0 < times (is_that wanted) (each_of action_change ps) → IsIn ps wanted)
          → times (is_that wanted) (action_change p.entry ++ each_of action_change ps)
          ≡ times (is_that wanted) (action_change p.entry) + times (is_that wanted) (each_of action_change ps)
          → IsIn (p ∷ ps) wanted
      at true e go sum =
          let here : (i : ℕ) × (slice_get (action_change p.entry) i ≡ Some wanted) =
          front_in wanted (action_change p.entry) (grind (arith, nat_tests)) in
          record { session = p.session; at = here.0; is = own (p.session == p.session) (self_is p.session) here.0 here.1 } where
            own : (b : Bool) → b ≡ true → (i : ℕ) → slice_get (action_change p.entry) i ≡ Some wanted
                → slice_get (cond b (action_change p.entry) [] ++ numbers_by p.session ps) i ≡ Some wanted
            own true q i e = get_front (action_change p.entry) (numbers_by p.session ps) i wanted e
            own false q i e = absurd (cc)
      at false e go sum =
          let none : times (is_that wanted) (action_change p.entry) ≡ 0 = grind (arith, nat_tests) in
          let rest : IsIn ps wanted = go (omega (arith, sum, none, h)) in
          record {
            session = rest.session;
            at = length (cond (p.session == rest.session) (action_change p.entry) []) + rest.at;
            is = get_behind (cond (p.session == rest.session) (action_change p.entry) []) (numbers_by rest.session ps) rest.at _ refl ∙ rest.is;
          }

-- all numbers of actions are versions of row 0
of_none : (entry : Entry) → times (is_of 0) (action_change entry) ≡ length (action_change entry)
of_none (says.Connect action thread account user host) = refl
of_none (says.Act action) = refl
of_none _ = refl

length_join : {A : Type 0} (xs ys : List A) → length (xs ++ ys) ≡ length xs + length ys
length_join [] ys = omega arith
length_join (x ∷ xs) ys = let e : length (xs ++ ys) ≡ length xs + length ys = length_join xs ys in omega (arith, e)

all_none : (all : List Placed) → times (is_of 0) (each_of action_change all) ≡ length (each_of action_change all)
all_none [] = refl
all_none (p ∷ ps) =
    times_append (is_of 0) (action_change p.entry) (each_of action_change ps)
    ∙ ap (λ z. z + times (is_of 0) (each_of action_change ps)) (of_none p.entry)
    ∙ ap (λ z. length (action_change p.entry) + z) (all_none ps)
    ∙ sym (length_join (action_change p.entry) (each_of action_change ps))

-- so each number up to how many there are stands somewhere
numbered : (all : List Placed) → AreChained action_change all → (i : ℕ) → i < length (each_of action_change all)
    → IsIn all (change_at 0 (i + 1))
numbered all chained i h = found_in all (change_at 0 (i + 1)) some where
  one : (n : ℕ) → i < n → cond {A = ℕ} (nat_lt 0 (i + 1) && nat_le (i + 1) n) 1 0 ≡ 1
  one n h = grind (arith, nat_tests)

  some : 0 < times (is_that (change_at 0 (i + 1))) (each_of action_change all)
  some =
      let e : times (is_that (change_at 0 (i + 1))) (each_of action_change (up_to_phase (top all) all))
      ≡ cond (nat_lt 0 (i + 1) && nat_le (i + 1) (times (is_of 0) (each_of action_change (up_to_phase (top all) all)))) 1 0 =
      chained (top all) (change_at 0 (i + 1)) in
      let f : times (is_that (change_at 0 (i + 1))) (each_of action_change all)
      ≡ cond (nat_lt 0 (i + 1) && nat_le (i + 1) (times (is_of 0) (each_of action_change all))) 1 0 =
      subst (λ z. times (is_that (change_at 0 (i + 1))) (each_of action_change z)
      ≡ cond (nat_lt 0 (i + 1) && nat_le (i + 1) (times (is_of 0) (each_of action_change z))) 1 0) (all_phases all) e in
      let g : cond {A = ℕ} (nat_lt 0 (i + 1) && nat_le (i + 1) (times (is_of 0) (each_of action_change all))) 1 0 ≡ 1 =
      one (times (is_of 0) (each_of action_change all)) (omega (arith, h, all_none all)) in
      omega (arith, f, g)

pub one_labels : (labels others : List Label) (all : List Placed) → AreChained action_change all → AreLabels labels all
    → AreLabels others all → labels ≡ others
one_labels labels others all chained a b = same_items labels others (a.few ∙ sym b.few) same where
  less : (i : ℕ) → (i + 1) - 1 ≡ i
  less i = omega arith

  same : (i : ℕ) → i < length labels → slice_get labels i ≡ slice_get others i
  same i h =
      let stands : IsIn all (change_at 0 (i + 1)) = numbered all chained i (omega (arith, h, a.few)) in
      let mine : slice_get labels ((i + 1) - 1) ≡ Some (record { session = stands.session; line = stands.at + 1 }) =
      a.each stands.session stands.at (change_at 0 (i + 1)) stands.is in
      let theirs : slice_get others ((i + 1) - 1) ≡ Some (record { session = stands.session; line = stands.at + 1 }) =
      b.each stands.session stands.at (change_at 0 (i + 1)) stands.is in
      ap (slice_get labels) (sym (less i)) ∙ mine ∙ sym theirs ∙ ap (slice_get others) (less i)
