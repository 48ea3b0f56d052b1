-- The end of a stack, and the front of its pieces in reverse.
use Rattle.std.proofs.Common.{◌≡◌, ℕ, ◌-◌, ◌≤◌, true, false, List, [], ◌∷◌, ◌++◌, length, take, drop, reverse, ap, sym, ◌∙◌, arith}
use Rattle.std.specs.Prelude.{if◌then◌else◌, Some}
use Rattle.std.proofs.lemmas.List.{reverse-append, length-reverse, length-drop, take-append-drop, drop_at}
use Rattle.pfs_digest.specs.declared.pieces.Shape.{Shape}
use Rattle.pfs_digest.specs.declared.pieces.Piece.{Piece}
use Rattle.pfs_digest.specs.declared.pieces.Piece.TheVariants.{One, Run}
use Rattle.pfs_digest.specs.Stack.{awaits, put, brackets, closed_by}

pub reverse-push : (xs : List Piece) (x : Piece) → reverse (xs ++ x ∷ []) ≡ x ∷ reverse xs
reverse-push xs x = reverse-append xs (x ∷ [])

pub reverse-cut : (n : ℕ) (xs : List Piece) → n ≤ length xs → reverse (take (length xs - n) xs) ≡ drop n (reverse xs)
reverse-cut n xs h =
    let k = length xs - n in
    let len : length (reverse (drop k xs)) ≡ n = omega (arith, length-reverse (drop k xs), length-drop k xs) in
    sym (ap (λ ys. drop n (reverse ys)) (sym (take-append-drop k xs)) ∙ ap (drop n) (reverse-append (take k xs) (drop k xs)) ∙ drop_at (reverse (drop k xs)) (reverse (take k xs)) n len)

pub put-run : (shape : Shape) (old cut new : List Piece) → 2 ≤ length old → cut ≡ take (length old - 2) old → new ≡ cut ++ Run shape ∷ [] → awaits shape (reverse old) ≡ true → reverse new ≡ put shape (reverse old)
put-run shape old cut new two at end here =
    ap reverse end ∙ reverse-push cut (Run shape) ∙ ap (λ ys. Run shape ∷ reverse ys) at ∙ ap (λ ys. Run shape ∷ ys) (reverse-cut 2 old two)
    ∙ sym (ap (λ t. if t then Run shape ∷ drop 2 (reverse old) else One shape ∷ reverse old) here)

pub close-brackets : (shape : Shape) (old cut new : List Piece) → 2 ≤ length old → cut ≡ take (length old - 2) old → brackets (reverse old) ≡ Some shape → reverse new ≡ put shape (reverse cut) → reverse new ≡ closed_by (brackets (reverse old)) (reverse old)
close-brackets shape old cut new two at here is =
    is ∙ ap (λ ys. put shape (reverse ys)) at ∙ ap (put shape) (reverse-cut 2 old two)
    ∙ sym (ap (λ o. closed_by o (reverse old)) here)
