-- Rows as words.
use Rattle.std.proofs.Common.{◌≡◌, ℕ, zero, suc, ◌+◌, ◌-◌, ◌*◌, ◌<◌, ◌≤◌, List, [], ◌∷◌, ◌++◌, length, get_or, take, drop, sym, refl, ap, ◌∙◌, arith, append_assoc, slice_range}
use Rattle.std.proofs.lemmas.List.{ext_get_or, length-take-le, length-drop}
use Rattle.std.proofs.Common.{append-nil, take-add}
use mathlib.Core.Option.{some, some-injective, some-ne-none}
use lib.ListN.{get_elem?}
use lib.Seq.{get_or-take, get_or-drop}
use Rattle.pfs_board.specs.declared.answers.FinalRow.{FinalRow}
use Rattle.pfs_board.specs.SeatViews.{final_words}

pub elem_get : (l : List ℕ) (i a : ℕ) → get_elem? l i ≡ some a → get_or l i 0 ≡ a
elem_get [] i a e = absurd (some-ne-none a (sym e))
elem_get (x ∷ xs) zero a e = some-injective x a e
elem_get (x ∷ xs) (suc i) a e = elem_get xs i a e

row_words : (ws content : List ℕ) (w r n : ℕ) → n ≡ 17 → length content ≡ 16 → get_or ws (17 * r) 0 ≡ w → ((j : ℕ) → j < 16 → get_or content j 0 ≡ get_or ws (17 * r + j + 1) 0) → (i : ℕ) → i < n → get_or (take n (drop (17 * r) ws)) i 0 ≡ get_or (w ∷ content) i 0
row_words ws content w r n is wide first rest zero h = get_or-take n (drop (17 * r) ws) 0 0 h ∙ (get_or-drop (17 * r) ws 0 0 ∙ (ap (λ k. get_or ws k 0) (omega arith) ∙ first))
row_words ws content w r n is wide first rest (suc i) h = get_or-take n (drop (17 * r) ws) (suc i) 0 h ∙ (get_or-drop (17 * r) ws (suc i) 0 ∙ (ap (λ k. get_or ws k 0) (omega arith) ∙ sym (rest i (omega arith))))

-- the words of one row
pub row_slice : (ws content : List ℕ) (w r : ℕ) → 17 * r + 17 ≤ length ws → length content ≡ 16 → get_or ws (17 * r) 0 ≡ w → ((j : ℕ) → j < 16 → get_or content j 0 ≡ get_or ws (17 * r + j + 1) 0) → slice_range ws (17 * r) (17 * r + 17) ≡ w ∷ content
row_slice ws content w r inside wide first rest = let n : ℕ = 17 * r + 17 - 17 * r in let d = length-drop (17 * r) ws in let l = length-take-le n (drop (17 * r) ws) (omega arith) in
    ext_get_or 0 (take n (drop (17 * r) ws)) (w ∷ content) (omega arith) (λ i h. row_words ws content w r n (omega arith) wide first rest i (omega arith))

pub final_append : (xs ys : List FinalRow) → final_words (xs ++ ys) ≡ final_words xs ++ final_words ys
final_append [] ys = refl
final_append (x ∷ xs) ys = ap (λ z. x.word ∷ z) (ap (λ z. x.content ++ z) (final_append xs ys) ∙ sym (append_assoc x.content (final_words xs) (final_words ys)))

-- the words up to one row more
pub take_row : (ws : List ℕ) (r : ℕ) → take (17 * (r + 1)) ws ≡ take (17 * r) ws ++ slice_range ws (17 * r) (17 * r + 17)
take_row ws r = let n : 17 * (r + 1) ≡ 17 * r + 17 = omega arith in let m : 17 * r + 17 - 17 * r ≡ 17 = omega arith in ap (λ k. take k ws) n ∙ (take-add (17 * r) 17 ws ∙ ap (λ k. take (17 * r) ws ++ take k (drop (17 * r) ws)) (sym m))

pub one_final : (x : FinalRow) → final_words (x ∷ []) ≡ x.word ∷ x.content
one_final x = ap (λ z. x.word ∷ z) (append-nil x.content)
