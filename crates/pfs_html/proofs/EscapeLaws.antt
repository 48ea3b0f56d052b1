-- What a text in a page can be, and what is seen of it.
use Rattle.std.proofs.Common.{ℕ, ◌≡◌, List, [], ◌∷◌, ◌++◌, refl, ap, ◌∙◌, arith}
use Rattle.std.specs.Prelude.{◌&&◌, Bool, true, None}
use Rattle.std.specs.List.{flat_map, list_all}
use Rattle.std.proofs.lemmas.List.Concat.{flat_map-cons}
use Rattle.std.proofs.lemmas.List.Folds.{list_all-append}
use Rattle.pfs_html.specs.Escapes.{escaped, escaped_byte, is_plain, read_on, seen}

plain_byte : (b : ℕ) → list_all is_plain (escaped_byte b) ≡ true
plain_byte b = grind arith

pub all_plain : (text : List ℕ) → list_all is_plain (escaped text) ≡ true
unfolding escaped
all_plain [] = refl
all_plain (b ∷ bs) = ap (list_all is_plain) (flat_map-cons escaped_byte b bs) ∙ (list_all-append is_plain (escaped_byte b) (flat_map escaped_byte bs) ∙ (ap (λ (z : Bool). z && list_all is_plain (flat_map escaped_byte bs)) (plain_byte b) ∙ all_plain bs))

seen_byte : (b : ℕ) (rest : List ℕ) → read_on None (escaped_byte b ++ rest) ≡ b ∷ read_on None rest
seen_byte b rest = grind arith

pub all_seen : (text : List ℕ) → seen (escaped text) ≡ text
unfolding escaped
all_seen [] = refl
all_seen (b ∷ bs) = ap (read_on None) (flat_map-cons escaped_byte b bs) ∙ (seen_byte b (flat_map escaped_byte bs) ∙ ap (λ (z : List ℕ). b ∷ z) (all_seen bs))
