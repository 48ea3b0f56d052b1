-- Lists that are made place by place.
use Rattle.std.proofs.Common.{ℕ, ◌≡◌, ◌+◌, ◌<◌, List, [], ◌∷◌, ◌++◌, length, take, get_or, sym, ap, ◌∙◌, append_assoc, arith}
use Rattle.std.specs.Prelude.{◌^◌, fold, slice_get, OnOk, Some, Result, Ok, Err, is_ok, if◌then◌else◌}
use Rattle.std.specs.List.{All, flat_map}
use Rattle.std.proofs.Math.Numerals.{suc-eq-add-one}
use Rattle.std.proofs.lemmas.List.{flat_map_more, take_more}
use Rattle.std.proofs.lemmas.List.Elements.{All-cons, All-nil}
use Rattle.std.proofs.lemmas.List.Sums.{fold-append}
use Rattle.std.proofs.lemmas.Option.{get_or_from_slice_get, slice_get-get_or}
use Rattle.pfs_journal.specs.declared.values.TableReport.{TableReport}
use Rattle.pfs_view.proofs.GridLaws.{first_at, length_first}
use Rattle.pfs_html.specs.Rankings.{columns_of}
use Rattle.pfs_html.specs.Cells.{places_below}
use Rattle.pfs_html.specs.declared.rankings.Ranking.{Ranking}
use Rattle.pfs_html.specs.declared.rankings.Ranking.TheVariants.{Waits, Statements, Digests}

-- one of no name and no rows
abbrev pub no_table : TableReport
no_table = record { name = []; rows = [] }

-- each place is below 2^64, where there are fewer
low_place : (n k d : ℕ) → n < 2 ^ 64 → k < length (places_below n) → get_or (places_below n) k d + 1 < 2 ^ 64
low_place n k d few there =
    let within : k < n = omega (arith, there, length_first (λ (place : ℕ). place) n) in
    omega (arith, few, within, first_at (λ (place : ℕ). place) n k d within)

pub places_low : (n : ℕ) → n < 2 ^ 64 → All (λ (place : ℕ). place + 1 < 2 ^ 64) (places_below n)
places_low n few = λ k d there. low_place n k d few there

five_low : (a b c d e : ℕ) → a < 8 → b < 8 → c < 8 → d < 8 → e < 8 → All (λ (place : ℕ). place + 1 < 2 ^ 64) (a ∷ b ∷ c ∷ d ∷ e ∷ [])
five_low a b c d e ha hb hc hd he =
    let P = λ (place : ℕ). place + 1 < 2 ^ 64 in
    All-cons P a (b ∷ c ∷ d ∷ e ∷ []) (omega (arith, ha)) (All-cons P b (c ∷ d ∷ e ∷ []) (omega (arith, hb)) (All-cons P c (d ∷ e ∷ []) (omega (arith, hc)) (All-cons P d (e ∷ []) (omega (arith, hd)) (All-cons P e [] (omega (arith, he)) (All-nil P)))))

pub columns_low : (ranking : Ranking) → All (λ (place : ℕ). place + 1 < 2 ^ 64) (columns_of ranking)
columns_low Waits = five_low 0 1 2 4 5 (omega arith) (omega arith) (omega arith) (omega arith) (omega arith)
columns_low Statements = five_low 0 1 2 4 5 (omega arith) (omega arith) (omega arith) (omega arith) (omega arith)
columns_low Digests = five_low 2 3 4 6 7 (omega arith) (omega arith) (omega arith) (omega arith) (omega arith)

-- what is appended place by place
pub appended_more : (f : ℕ → List ℕ) (i : ℕ) (old before now : List ℕ) → before ≡ old ++ flat_map f (places_below i) → now ≡ before ++ f i → now ≡ old ++ flat_map f (places_below (i + 1))
appended_more f i old before now b n =
    n ∙ (ap (λ (z : List ℕ). z ++ f i) b
    ∙ (flat_map_more f old (places_below i) i
    ∙ ap (λ (k : ℕ). old ++ flat_map f (places_below k)) (suc-eq-add-one i)))

-- what is put place by place
pub put_more : {Y : Type 0} (put : Y → ℕ → Y) (start : Y) (i : ℕ) (before now : Y) → before ≡ fold put start (places_below i) → now ≡ put before i → now ≡ fold put start (places_below (i + 1))
put_more {Y} put start i before now b n =
    n ∙ (ap (λ (z : Y). put z i) b
    ∙ (sym (fold-append put start (places_below i) (i ∷ []))
    ∙ ap (λ (k : ℕ). fold put start (places_below k)) (suc-eq-add-one i)))

-- what is appended of a list that is asked by places
pub taken_more : {X : Type 0} (f : X → List ℕ) (xs : List X) (i : ℕ) (x : X) (old before now : List ℕ) → i < length xs → slice_get xs i ≡ Some x → before ≡ old ++ flat_map f (take i xs) → now ≡ before ++ f x → now ≡ old ++ flat_map f (take (i + 1) xs)
taken_more {X} f xs i x old before now within is b n =
    let one : take (i + 1) xs ≡ take i xs ++ x ∷ [] = take_more xs i x within ∙ ap (λ (y : X). take i xs ++ y ∷ []) (get_or_from_slice_get xs i x x is) in
    n ∙ (ap (λ (z : List ℕ). z ++ f x) b
    ∙ (flat_map_more f old (take i xs) x
    ∙ ap (λ (ys : List X). old ++ flat_map f ys) (sym one)))

-- what is there, whichever default is asked with
pub same_item : {X : Type 0} (xs : List X) (i : ℕ) (x d : X) → i < length xs → x ≡ get_or xs i x → get_or xs i d ≡ x
same_item {X} xs i x d within is = get_or_from_slice_get xs i x d (slice_get-get_or xs i x within ∙ ap Some (sym is))

-- a text that was appended in two parts, and in three
pub two_parts : {A E : Type 0} (r : Result A E) (old mid now a b : List ℕ) → mid ≡ old ++ a → OnOk r (now ≡ mid ++ b) → OnOk r (now ≡ old ++ (a ++ b))
two_parts (Ok x) old mid now a b first last = last ∙ (ap (λ (z : List ℕ). z ++ b) first ∙ append_assoc old a b)
two_parts (Err e) old mid now a b first last = tt

pub three_parts : {A E : Type 0} (r : Result A E) (old one two now a b c : List ℕ) → one ≡ old ++ a → two ≡ one ++ b → OnOk r (now ≡ two ++ c) → OnOk r (now ≡ old ++ ((a ++ b) ++ c))
three_parts r old one two now a b c first second last =
    two_parts r old two now (a ++ b) c (second ∙ (ap (λ (z : List ℕ). z ++ b) first ∙ append_assoc old a b)) last

-- the same, where the last part was appended unless memory ran out
pub three_appended : {A E : Type 0} (r : Result A E) (old one two now a b c : List ℕ) → one ≡ old ++ a → two ≡ one ++ b → now ≡ (if is_ok r then two ++ c else two) → OnOk r (now ≡ old ++ ((a ++ b) ++ c))
three_appended {A} {E} (Ok x) old one two now a b c first second last = three_parts {A = A} {E = E} (Ok x) old one two now a b c first second last
three_appended (Err e) old one two now a b c first second last = tt
