-- A pass from the left, over the list in reverse.
use Rattle.std.proofs.Common.{◌≡◌, List, [], ◌∷◌, ◌++◌, reverse, append_assoc, refl, ap, sym, ◌∙◌}
use Rattle.std.proofs.lemmas.List.{reverse-append, append-nil}
use Rattle.pfs_digest.specs.declared.pieces.Piece.{Piece}

-- the pieces one after the other
abbrev pub left : (Piece → List Piece → List Piece) → List Piece → List Piece → List Piece
left step stack [] = stack
left step stack (piece ∷ pieces) = left step (step piece stack) pieces

-- the same where the last piece stands first
abbrev pub right : (Piece → List Piece → List Piece) → List Piece → List Piece
right step [] = []
right step (piece ∷ pieces) = step piece (right step pieces)

-- the pieces in reverse before the others
abbrev pub onto : List Piece → List Piece → List Piece
onto [] others = others
onto (piece ∷ pieces) others = onto pieces (piece ∷ others)

pub reverse-cons : (x : Piece) (xs : List Piece) → reverse (x ∷ xs) ≡ reverse xs ++ x ∷ []
reverse-cons x xs = reverse-append (x ∷ []) xs

pub onto-is : (xs ys : List Piece) → onto xs ys ≡ reverse xs ++ ys
onto-is [] ys = refl
onto-is (x ∷ xs) ys =
    onto-is xs (x ∷ ys) ∙ sym (append_assoc (reverse xs) (x ∷ []) ys) ∙ ap (λ r. r ++ ys) (sym (reverse-cons x xs))

pub onto-nil : (xs : List Piece) → onto xs [] ≡ reverse xs
onto-nil xs = onto-is xs [] ∙ append-nil (reverse xs)

pub left-right : (step : Piece → List Piece → List Piece) (ys xs : List Piece) → left step (right step ys) xs ≡ right step (onto xs ys)
left-right step ys [] = refl
left-right step ys (x ∷ xs) = left-right step (x ∷ ys) xs

pub left-is : (step : Piece → List Piece → List Piece) (xs : List Piece) → left step [] xs ≡ right step (reverse xs)
left-is step xs = left-right step [] xs ∙ ap (right step) (onto-nil xs)
