-- The four steps that make a list of pieces short, each on the whole list.
use Rattle.std.specs.Prelude.{ℕ, zero, suc, ◌+◌, ◌-◌, ◌*◌, nat_lt, Bool, true, false, ◌&&◌, List, [], ◌∷◌, length, take, if◌then◌else◌}
use Rattle.std.specs.List.{suffix_len}
use Rattle.pfs_digest.specs.declared.pieces.Shape.{Shape}
use Rattle.pfs_digest.specs.declared.pieces.Shape.TheVariants.{Value, Single, Several}
use Rattle.pfs_digest.specs.declared.pieces.Piece.{Piece}
use Rattle.pfs_digest.specs.declared.pieces.Piece.TheVariants.{One, Run, Open, Close, Comma, Semicolon}

abbrev pub is_semicolon : Piece → Bool
is_semicolon Semicolon = true
is_semicolon piece = false

abbrev pub is_comma : Piece → Bool
is_comma Comma = true
is_comma piece = false

abbrev pub same_shape : Shape → Shape → Bool
same_shape Value Value = true
same_shape Single Single = true
same_shape Several Several = true
same_shape shape other = false

-- the piece is the shape once
abbrev pub is_one : Shape → Piece → Bool
is_one shape (One other) = same_shape shape other
is_one shape piece = false

-- The `;` at the end go.
abbrev pub without_last : List Piece → List Piece
without_last pieces = take (length pieces - suffix_len is_semicolon pieces) pieces

-- how many times `,` and the shape stand at the front, one after the other
abbrev pub repeats : Shape → List Piece → ℕ
repeats shape [] = 0
repeats shape (first ∷ []) = 0
repeats shape (first ∷ second ∷ pieces) = if is_comma first && is_one shape second then 1 + repeats shape pieces else 0

-- how many times they follow a piece, where the piece is the shape
abbrev pub follows : Shape → Piece → List Piece → ℕ
follows shape piece pieces = if is_one shape piece then repeats shape pieces else 0

-- Of pieces of which the first, so many, belong to the run before.
unfoldable pub joined_from : Shape → ℕ → List Piece → List Piece
joined_from shape covered [] = []
joined_from shape (suc covered) (piece ∷ pieces) = joined_from shape covered pieces
joined_from shape zero (piece ∷ pieces) =
    (if nat_lt 0 (follows shape piece pieces) then Run shape else piece)
    ∷ joined_from shape (2 * follows shape piece pieces) pieces

-- Every longest run of the shape, at least two with `,` between them, becomes one piece.
abbrev pub joined : Shape → List Piece → List Piece
joined shape pieces = joined_from shape 0 pieces

-- Every `(`, `?`, `)` becomes `(?)`, and every `(`, `?, ...`, `)` becomes `(...)`.
unfoldable pub bracketed : List Piece → List Piece
bracketed [] = []
bracketed (Open ∷ One Value ∷ Close ∷ pieces) = One Single ∷ bracketed pieces
bracketed (Open ∷ Run Value ∷ Close ∷ pieces) = One Several ∷ bracketed pieces
bracketed (piece ∷ pieces) = piece ∷ bracketed pieces

-- the four steps, one after the other
abbrev pub reduced : List Piece → List Piece
reduced pieces = joined Several (joined Single (bracketed (joined Value (without_last pieces))))
