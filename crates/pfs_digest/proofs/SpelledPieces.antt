-- One piece more of a digest text.
use Rattle.std.proofs.Common.{◌≡◌, ℕ, suc, ◌+◌, ◌<◌, List, [], ◌∷◌, ◌++◌, length, ◌-◌, get_or, take, drop, map, append_assoc, refl, ap, sym, ◌∙◌, arith}
use Rattle.std.specs.List.{join_with_byte}
use Rattle.std.proofs.lemmas.List.{take_more, take_rest, get_or-drop, map_push}
use Rattle.pfs_digest.specs.declared.pieces.Piece.{Piece}
use Rattle.pfs_digest.specs.PieceBytes.{printed, spelled}

join-push : (x : List ℕ) (xs : List (List ℕ)) (y : List ℕ) → join_with_byte 32 (x ∷ (xs ++ y ∷ [])) ≡ join_with_byte 32 (x ∷ xs) ++ (32 ∷ y)
join-push x [] y = refl
join-push x (z ∷ xs) y =
    ap (λ r. x ++ (32 ∷ r)) (join-push z xs y) ∙ sym (append_assoc x (32 ∷ join_with_byte 32 (z ∷ xs)) (32 ∷ y))

spelled-push : (text : List ℕ) (first : Piece) (pieces : List Piece) (piece : Piece) → spelled text ((first ∷ pieces) ++ piece ∷ []) ≡ spelled text (first ∷ pieces) ++ (32 ∷ printed text piece)
spelled-push text first pieces piece =
    ap (λ r. join_with_byte 32 (printed text first ∷ r)) (map_push (λ p. printed text p) pieces piece)
    ∙ join-push (printed text first) (map (λ p. printed text p) pieces) (printed text piece)

-- the pieces up to the next
pub spelled-more : (text : List ℕ) (pieces : List Piece) (n : ℕ) (d : Piece) → n + 1 < length pieces → spelled text (take (n + 1 + 1) pieces) ≡ spelled text (take (n + 1) pieces) ++ (32 ∷ printed text (get_or pieces (n + 1) d))
spelled-more text [] n d h = absurd (omega arith)
spelled-more text (first ∷ pieces) n d h =
    let one : n + 1 ≡ suc n = omega arith in
    ap (spelled text) (take_more (first ∷ pieces) (n + 1) d h)
    ∙ ap (λ k. spelled text (take k (first ∷ pieces) ++ get_or (first ∷ pieces) (n + 1) d ∷ [])) one
    ∙ spelled-push text first (take n pieces) (get_or (first ∷ pieces) (n + 1) d)
    ∙ ap (λ k. spelled text (take k (first ∷ pieces)) ++ (32 ∷ printed text (get_or (first ∷ pieces) (n + 1) d))) (sym one)

-- the next piece and the space before it
pub next-piece : (text : List ℕ) (pieces : List Piece) (n : ℕ) (d : Piece) → n + 1 < length pieces → (spelled text (take (n + 1) pieces) ++ 32 ∷ []) ++ printed text (get_or (take (length pieces - 1) (drop 1 pieces)) n d) ≡ spelled text (take (n + 1 + 1) pieces)
next-piece text pieces n d h =
    let rest : take (length pieces - 1) (drop 1 pieces) ≡ drop 1 pieces = take_rest pieces 1 in
    let at : 1 + n ≡ n + 1 = omega arith in
    append_assoc (spelled text (take (n + 1) pieces)) (32 ∷ []) (printed text (get_or (take (length pieces - 1) (drop 1 pieces)) n d))
    ∙ ap (λ r. spelled text (take (n + 1) pieces) ++ (32 ∷ printed text (get_or r n d))) rest
    ∙ ap (λ p. spelled text (take (n + 1) pieces) ++ (32 ∷ printed text p)) (get_or-drop 1 pieces n d ∙ ap (λ k. get_or pieces k d) at)
    ∙ sym (spelled-more text pieces n d h)
