-- What is written place by place.
use Rattle.std.proofs.Common.{ℕ, zero, suc, ◌≡◌, ◌+◌, ◌<◌, ◌≤◌, ◌⊎◌, inl, inr, List, [], ◌∷◌, ◌++◌, length, take, Option, Some, None, Err, false, ltb, refl, sym, ap, subst, ◌∙◌, append-nil, arith}
use Rattle.std.specs.Prelude.{slice_get}
use Rattle.std.specs.Option.{option_map_or}
use Rattle.std.proofs.lemmas.Option.{slice_get_past}
use Rattle.std.specs.List.{flat_map}
use Rattle.std.proofs.Math.Numerals.{suc-eq-add-one}
use Rattle.std.proofs.lemmas.Bool.{cases_lt, ltb-false}
use Rattle.std.proofs.lemmas.List.{flat_map_more, take-append-le, take_all}
use Rattle.pfs_outside.specs.DeviceCalls.{Added}
use Rattle.pfs_outside.specs.WholeStreams.{Puts}
use Rattle.pfs_outside.specs.declared.writing.WriteStop.{WriteStop}
use Rattle.pfs_outside.proofs.SinkWrites.{added_more}
use Rattle.pfs_view.specs.Grids.{first_of}
use Rattle.pfs_view.proofs.GridLaws.{first_at, length_first}
use Rattle.pfs_view.proofs.WrittenParts.{stopped_at}

abbrev pub places : ℕ → List ℕ
places count = first_of (λ (place : ℕ). place) count

-- what the first places wrote
pub record WrittenTo (f : ℕ → List ℕ) (place : ℕ) (before now : Option (List ℕ)) (old new : ℕ) : Type 0 where
  pub added : Added before now (flat_map f (places place))
  pub risen : old ≤ new

-- one place more
pub written_more : (f : ℕ → List ℕ) (i : ℕ) (a b c : Option (List ℕ)) (k m n : ℕ) → WrittenTo f i a b k m → Added b c (f i) × (m ≤ n) → WrittenTo f (i + 1) a c k n
written_more f i a b c k m n front more =
    let one : flat_map f (places i) ++ f i ≡ flat_map f (places (i + 1)) = flat_map_more f [] (places i) i ∙ ap (λ (j : ℕ). flat_map f (places j)) (suc-eq-add-one i) in
    record {
      added = subst (Added a c) one (added_more a b c (flat_map f (places i)) (f i) front.added more.0);
      risen = omega (arith, front.risen, more.1);
    }

first_if : {A : Type 0} (f : ℕ → A) (n i : ℕ) → (i ≤ n → take i (first_of f n) ≡ first_of f i) → (i < suc n) ⊎ (suc n ≤ i) → i ≤ suc n → take i (first_of f n ++ f n ∷ []) ≡ first_of f i
first_if f n i before (inl h) within = take-append-le i (first_of f n) (f n ∷ []) (omega (arith, h, length_first f n)) ∙ before (omega (arith, h))
first_if f n i before (inr h) within =
    let last : i ≡ suc n = omega (arith, h, within) in
    take_all i (first_of f n ++ f n ∷ []) (omega (arith, last, length_first f (suc n))) ∙ ap (first_of f) (sym last)

-- the first ones of more
first_front : {A : Type 0} (f : ℕ → A) (n i : ℕ) → i ≤ n → take i (first_of f n) ≡ first_of f i
first_front f zero i h = let none : i ≡ 0 = omega (arith, h) in ap (λ (k : ℕ). take k (first_of f 0)) none ∙ ap (first_of f) (sym none)
first_front f (suc n) i h = first_if f n i (first_front f n i) (cases_lt i (suc n)) h

-- writing stopped at a place
pub written_stop : (f : ℕ → List ℕ) (count i : ℕ) (a b c : Option (List ℕ)) (k m n : ℕ) (stop : WriteStop) → i < count → WrittenTo f i a b k m → Puts b c m n (f i) (Err stop) → Puts a c k n (flat_map f (places count)) (Err stop)
written_stop f count i a b c k m n stop within front p =
    stopped_at f (places count) i i a b c k m n stop (omega (arith, within, length_first (λ (place : ℕ). place) count)) (sym (first_at (λ (place : ℕ). place) count i i within))
    (subst (λ (z : List ℕ). Added a b (flat_map f z)) (sym (first_front (λ (place : ℕ). place) count i (omega (arith, within)))) front.added, front.risen) p

-- all places were written
pub written_all : (f : ℕ → List ℕ) (count i : ℕ) (a b : Option (List ℕ)) (k m : ℕ) → i ≡ count → WrittenTo f i a b k m → Added a b (flat_map f (places count)) × (k ≤ m)
written_all f count i a b k m all so = (subst (λ (j : ℕ). Added a b (flat_map f (places j))) all so.added, so.risen)

-- nothing was written of nothing
written_none : (a : Option (List ℕ)) (k : ℕ) (text : List ℕ) → text ≡ [] → Added a a text × (k ≤ k)
written_none None k text none = (refl, omega arith)
written_none (Some bytes) k text none =
    (ap (λ (z : List ℕ). Some z) (sym (ap (λ (z : List ℕ). bytes ++ z) none ∙ append-nil bytes)), omega arith)

-- nor of what isn't there
pub written_past : {A : Type 0} (f : A → List ℕ) (xs : List A) (place : ℕ) (a : Option (List ℕ)) (k : ℕ) → false ≡ ltb place (length xs) → Added a a (option_map_or f (slice_get xs place) []) × (k ≤ k)
written_past {A} f xs place a k past =
    let none : slice_get xs place ≡ None = slice_get_past xs place (ltb-false place (length xs) (sym past)) in
    written_none a k (option_map_or f (slice_get xs place) []) (ap (λ (o : Option A). option_map_or f o []) none)
