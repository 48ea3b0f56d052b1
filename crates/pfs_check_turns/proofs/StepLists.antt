-- The steps of changes, sorted along their rows.
use Rattle.std.proofs.Common.{◌≡◌, refl, ℕ, zero, suc, ◌+◌, ◌<◌, ◌≤◌, ◌==◌, Bool, true, false, cond, nat_lt, List, [], ◌∷◌, ◌++◌, length, sym, ◌∙◌, ap, ◌⊎◌, inl, inr, arith, Option, Some, None}
use Rattle.std.specs.Prelude.{slice_get}
use Rattle.std.specs.List.Sorted.{IsPermutation, IsSorted}
use Rattle.std.specs.Ordering.{is_lt, nat_cmp, ordering_then}
use Rattle.std.specs.declared.cmp.Ordering.{Ordering}
use Rattle.std.specs.declared.cmp.Ordering.TheVariants.{Less, Equal, Greater}
use Rattle.std.proofs.lemmas.Bool.{cases_lt, eqb-false}
use Rattle.std.proofs.lemmas.Bool.Decides.{nat_tests}
use Rattle.std.proofs.lemmas.List.{length_push}
use Rattle.std.proofs.lemmas.List.Sorted.{IsPermutation-sym}
use Rattle.std.proofs.lemmas.Option.{same_Some, slice_get_within}
use Rattle.pfs_check_contents.specs.declared.changes.RowChange.{RowChange}
use Rattle.pfs_check_turns.specs.declared.turns.Step.{Step}
use Rattle.pfs_check_turns.specs.ReplayTurns.{AreInOrder, AreListed, IsSortedTo, step_of}
use Rattle.pfs_check_turns.proofs.KeyedLists.{AreSingle, IsOneOf, one_moved, single_moved, sorted_all}

pub get_pushed : {A : Type 0} (xs : List A) (x : A) (i : ℕ) (a : A) → slice_get (xs ++ x ∷ []) i ≡ Some a
    → (slice_get xs i ≡ Some a) ⊎ ((i ≡ length xs) × (x ≡ a))
get_pushed [] x zero a g = inr (refl, same_Some x a g)
get_pushed [] x (suc i) a g = absurd (cc)
get_pushed (y ∷ xs) x zero a g = inl g
get_pushed (y ∷ xs) x (suc i) a g = on (get_pushed xs x i a g) where
  on : (slice_get xs i ≡ Some a) ⊎ ((i ≡ length xs) × (x ≡ a)) → (slice_get xs i ≡ Some a) ⊎ ((suc i ≡ suc (length xs)) × (x ≡ a))
  on (inl h) = inl h
  on (inr (e, h)) = inr (ap suc e, h)

pub get_last : {A : Type 0} (xs : List A) (x : A) (i : ℕ) → i ≡ length xs → slice_get (xs ++ x ∷ []) i ≡ Some x
get_last [] x zero e = refl
get_last [] x (suc i) e = absurd (omega (arith, e))
get_last (y ∷ ys) x zero e = absurd (omega (arith, e))
get_last (y ∷ ys) x (suc i) e = get_last ys x i (omega (arith, e))

pub get_front : {A : Type 0} (xs : List A) (x : A) (i : ℕ) (a : A) → slice_get xs i ≡ Some a → slice_get (xs ++ x ∷ []) i ≡ Some a
get_front [] x i a g = absurd (cc)
get_front (y ∷ ys) x zero a g = g
get_front (y ∷ ys) x (suc i) a g = get_front ys x i a g

-- so many steps
pub record ListedSoFar (changes : List RowChange) (steps : List Step) (k : ℕ) : Type 0 where
  pub many : length steps ≡ k
  pub each : (place : ℕ) (one : RowChange) → place < k → slice_get changes place ≡ Some one → slice_get steps place ≡ Some (step_of place one)

pub none_listed : (changes : List RowChange) (steps : List Step) (k : ℕ) → steps ≡ [] → k ≡ 0 → ListedSoFar changes steps k
none_listed changes steps k e z = record {
  many = ap length e ∙ sym z;
  each = λ place one l g. absurd (omega (arith, l, z));
}

pub list_more : (changes : List RowChange) (steps : List Step) (k : ℕ) (one : RowChange) → slice_get changes k ≡ Some one → ListedSoFar changes steps k
    → ListedSoFar changes (steps ++ step_of k one ∷ []) (k + 1)
list_more changes steps k one g so = record {
  many = length_push steps (step_of k one) ∙ ap (λ z. z + 1) so.many;
  each = λ place next l h. on place next h (cases_lt place k) l;
} where
  on : (place : ℕ) (next : RowChange) → slice_get changes place ≡ Some next → (place < k) ⊎ (k ≤ place) → place < k + 1
      → slice_get (steps ++ step_of k one ∷ []) place ≡ Some (step_of place next)
  on place next h (inl m) l = get_front steps (step_of k one) place (step_of place next) (so.each place next m h)
  on place next h (inr m) l =
      let e : place ≡ k = omega (arith, l, m) in
      let same : one ≡ next = same_Some one next (sym g ∙ ap (slice_get changes) (sym e) ∙ h) in
      get_last steps (step_of k one) place (e ∙ sym so.many) ∙ ap (λ z. Some (step_of z one)) (sym e) ∙ ap (λ z. Some (step_of place z)) same

pub all_listed : (changes : List RowChange) (steps : List Step) (k : ℕ) → k ≡ length changes → ListedSoFar changes steps k → AreListed changes steps
all_listed changes steps k e so = record {
  many = so.many ∙ e;
  each = λ place one g. let l : place < length changes = slice_get_within changes place one g in so.each place one (omega (arith, l, e)) g;
}

-- each step is that of the change at its place, and each change has one
pub record AreSteps (changes : List RowChange) (steps : List Step) : Type 0 where
  pub own : (k : ℕ) (step : Step) → slice_get steps k ≡ Some step → (one : RowChange) × (slice_get changes step.place ≡ Some one) × (step ≡ step_of step.place one)
  pub covers : (place : ℕ) (one : RowChange) → slice_get changes place ≡ Some one → IsOneOf steps (step_of place one)
  pub single : AreSingle (λ (step : Step). step.place) steps

listed_own : (changes : List RowChange) (steps : List Step) → AreListed changes steps → (k : ℕ) (step : Step) → slice_get steps k ≡ Some step
    → (one : RowChange) × (slice_get changes k ≡ Some one) × (step ≡ step_of k one)
listed_own changes steps listed k step g = on (slice_get changes k) refl where
  within : k < length changes
  within = let l : k < length steps = slice_get_within steps k step g in let m : length steps ≡ length changes = listed.many in omega (arith, l, m)

  none : (xs : List RowChange) (i : ℕ) → slice_get xs i ≡ None → i < length xs → ⊥
  none [] i e l = omega (arith, l)
  none (x ∷ xs) zero e l = absurd (cc)
  none (x ∷ xs) (suc i) e l = none xs i e (omega (arith, l))

  on : (o : Option RowChange) → slice_get changes k ≡ o → (one : RowChange) × (slice_get changes k ≡ Some one) × (step ≡ step_of k one)
  on None e = absurd (none changes k e within)
  on (Some one) e = (one, e, same_Some step (step_of k one) (sym g ∙ listed.each k one e))

pub listed_steps : (changes : List RowChange) (steps : List Step) → AreListed changes steps → AreSteps changes steps
listed_steps changes steps listed = record {
  own = λ k step g. own k step (listed_own changes steps listed k step g);
  covers = λ place one g. (place, listed.each place one g);
  single = λ j k one other g h e.
      place_is j one (listed_own changes steps listed j one g) ∙ e ∙ sym (place_is k other (listed_own changes steps listed k other h));
} where
  place_is : (k : ℕ) (step : Step) → (one : RowChange) × (slice_get changes k ≡ Some one) × (step ≡ step_of k one) → k ≡ step.place
  place_is k step h = sym (ap (λ (z : Step). z.place) h.2)

  own : (k : ℕ) (step : Step) → (one : RowChange) × (slice_get changes k ≡ Some one) × (step ≡ step_of k one)
      → (one : RowChange) × (slice_get changes step.place ≡ Some one) × (step ≡ step_of step.place one)
  own k step h = (h.0, ap (slice_get changes) (sym (place_is k step h)) ∙ h.1, h.2 ∙ ap (λ z. step_of z h.0) (place_is k step h))

pub steps_moved : (changes : List RowChange) (xs ys : List Step) → IsPermutation xs ys → AreSteps changes xs → AreSteps changes ys
steps_moved changes xs ys p steps = record {
  own = λ k step g. let h : IsOneOf xs step = one_moved ys xs step (IsPermutation-sym xs ys p) (k, g) in steps.own h.0 step h.1;
  covers = λ place one g. one_moved xs ys (step_of place one) p (steps.covers place one g);
  single = single_moved (λ (step : Step). step.place) xs ys p steps.single;
}

-- sorted steps
abbrev pub step_cmp : Step → Step → Ordering
step_cmp one other =
    ordering_then (nat_cmp one.row other.row)
    (ordering_then (nat_cmp one.version other.version)
    (ordering_then (nat_cmp one.action other.action) (nat_cmp one.place other.place)))

not_less : (a b : Step) → is_lt (step_cmp b a) ≡ false → IsSortedTo a b
not_less a b e = record {
  row = row (nat_lt b.row a.row) refl e;
  version = λ q. version q (nat_lt b.row a.row) (b.row == a.row) (nat_lt b.version a.version) refl refl refl e;
} where
  row : (t : Bool) → nat_lt b.row a.row ≡ t
      → is_lt (ordering_then (cond t Less (cond (b.row == a.row) Equal Greater))
      (ordering_then (nat_cmp b.version a.version) (ordering_then (nat_cmp b.action a.action) (nat_cmp b.place a.place)))) ≡ false
      → a.row ≤ b.row
  row true q f = absurd (cc)
  row false q f = grind (arith, nat_tests)

  version : a.row ≡ b.row → (t u v : Bool) → nat_lt b.row a.row ≡ t → (b.row == a.row) ≡ u → nat_lt b.version a.version ≡ v
      → is_lt (ordering_then (cond t Less (cond u Equal Greater))
      (ordering_then (cond v Less (cond (b.version == a.version) Equal Greater)) (ordering_then (nat_cmp b.action a.action) (nat_cmp b.place a.place)))) ≡ false
      → a.version ≤ b.version
  version q true u v l m n f = absurd (cc)
  version q false false v l m n f = absurd (eqb-false b.row a.row m (sym q))
  version q false true true l m n f = absurd (cc)
  version q false true false l m n f = grind (arith, nat_tests)

sorted_trans : (a b c : Step) → IsSortedTo a b → IsSortedTo b c → IsSortedTo a c
sorted_trans a b c p q = record {
  row = omega (arith, p.row, q.row);
  version = λ e.
      let same : a.row ≡ b.row = omega (arith, p.row, q.row, e) in
      omega (arith, p.version same, q.version (sym same ∙ e));
}

pub sorted_steps : (xs : List Step) → IsSorted step_cmp xs → AreInOrder xs
sorted_steps xs sorted =
    sorted_all step_cmp IsSortedTo not_less (λ a. record { row = omega arith; version = λ e. omega arith }) sorted_trans xs sorted
