-- Names that are taken one after another, none of them twice.
use Rattle.std.proofs.Common.{◌≡◌, ℕ, ◌+◌, ◌<◌, ◌≤◌, Bool, true, false, cond, List, [], ◌∷◌, length, get_or, drop, map, refl, sym, ap, subst, ◌∙◌}
use Rattle.std.specs.Prelude.{◌&&◌, ◌||◌, not}
use Rattle.std.specs.Char.{to_ascii_lowercase}
use Rattle.std.specs.Cmp.Lexicographic.{slice_cmp}
use Rattle.std.specs.List.{list_all, list_any}
use Rattle.std.specs.Ordering.{is_eq, nat_cmp}
use Rattle.std.specs.Str.{bytes_eq, str_eq_ignore_ascii_case}
use Rattle.std.proofs.lemmas.Bool.{not-true}
use Rattle.std.proofs.lemmas.List.{drop_more, drop_all}
use Rattle.std.proofs.lemmas.Map.Text.{is_eq-slice_cmp}
use Rattle.pfs_sql.specs.Grammar.{are_apart}

abbrev pub lower : List ℕ → List ℕ
lower = map to_ascii_lowercase

-- none of the names was seen, and none stands there twice
abbrev pub fresh : (List ℕ → Bool) → List (List ℕ) → Bool
fresh seen names = list_all (λ n. not (seen (lower n))) names && are_apart names

pub fresh_none : (seen : List ℕ → Bool) (names : List (List ℕ)) → ((q : List ℕ) → seen q ≡ false) → are_apart names ≡ fresh seen names
fresh_none seen names none = sym (rw (all_none names) refl)
  where
    all_none : (ns : List (List ℕ)) → list_all (λ n. not (seen (lower n))) ns ≡ true
    all_none [] = refl
    all_none (n ∷ ns) = rw (none (lower n), all_none ns) refl

regroup : (a b c : Bool) → (a && not b) && c ≡ a && (not b && c)
regroup true b c = refl
regroup false b c = refl

with_one : (seen next : List ℕ → Bool) (n : List ℕ) (names : List (List ℕ)) → ((q : List ℕ) → next q ≡ cond (bytes_eq (lower n) q) true (seen q))
    → list_all (λ m. not (next (lower m))) names ≡ list_all (λ m. not (seen (lower m))) names && not (list_any (λ m. str_eq_ignore_ascii_case n m) names)
with_one seen next n [] h = refl
with_one seen next n (m ∷ names) h = rw (h (lower m), with_one seen next n names h) (cases (bytes_eq (lower n) (lower m)) (seen (lower m)) (list_all (λ m. not (seen (lower m))) names) (list_any (λ m. str_eq_ignore_ascii_case n m) names))
  where
    cases : (t s a b : Bool) → not (cond t true s) && (a && not b) ≡ (not s && a) && not (t || b)
    cases true true a b = refl
    cases true false true b = refl
    cases true false false b = refl
    cases false true a b = refl
    cases false false a b = refl

-- one name more was seen
fresh_step : (seen next : List ℕ → Bool) (n : List ℕ) (names : List (List ℕ)) → seen (lower n) ≡ false → ((q : List ℕ) → next q ≡ cond (bytes_eq (lower n) q) true (seen q)) → fresh seen (n ∷ names) ≡ fresh next names
fresh_step seen next n names new h = rw (new, with_one seen next n names h) (sym (regroup (list_all (λ m. not (seen (lower m))) names) (list_any (λ m. str_eq_ignore_ascii_case n m) names) (are_apart names)))

pub fresh_more : (all names : List (List ℕ)) (i : ℕ) (n : List ℕ) (seen next : List ℕ → Bool) → i < length names → n ≡ get_or names i n → are_apart all ≡ fresh seen (drop i names)
    → not (seen (lower n)) ≡ true → ((q : List ℕ) → next q ≡ cond (is_eq (slice_cmp nat_cmp (lower n) q)) true (seen q)) → are_apart all ≡ fresh next (drop (i + 1) names)
fresh_more all names i n seen next within at same new h =
    let here : drop i names ≡ n ∷ drop (i + 1) names = drop_more names i n within ∙ ap (λ (x : List ℕ). x ∷ drop (i + 1) names) (sym at) in
    same ∙ ap (fresh seen) here ∙ fresh_step seen next n (drop (i + 1) names) (not-true (seen (lower n)) new) (λ q. h q ∙ ap (λ (b : Bool). cond b true (seen q)) (is_eq-slice_cmp (lower n) q))
