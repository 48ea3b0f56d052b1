-- The stack of one pass, its top first.
use Rattle.std.specs.Prelude.{ℕ, Bool, false, List, [], ◌∷◌, drop, Option, Some, None, Result, Ok, Err, if◌then◌else◌}
use Rattle.pfs_lexer.specs.declared.tokens.Token.{Token}
use Rattle.pfs_lexer.specs.declared.tokens.LexFault.{LexFault}
use Rattle.pfs_digest.specs.declared.pieces.Shape.{Shape}
use Rattle.pfs_digest.specs.declared.pieces.Shape.TheVariants.{Value, Single, Several}
use Rattle.pfs_digest.specs.declared.pieces.Piece.{Piece}
use Rattle.pfs_digest.specs.declared.pieces.Piece.TheVariants.{One, Run, Open, Close, Comma}
use Rattle.pfs_digest.specs.TokenPieces.{piece_of}
use Rattle.pfs_digest.specs.Reduction.{same_shape}

-- the piece is the shape, once or more often
abbrev pub is_of : Shape → Piece → Bool
is_of shape (One other) = same_shape shape other
is_of shape (Run other) = same_shape shape other
is_of shape piece = false

-- the stack ends with the shape and a `,`
abbrev pub awaits : Shape → List Piece → Bool
awaits shape (Comma ∷ piece ∷ below) = is_of shape piece
awaits shape stack = false

-- the stack with the shape once more
abbrev pub put : Shape → List Piece → List Piece
put shape stack = if awaits shape stack then Run shape ∷ drop 2 stack else One shape ∷ stack

-- what a `)` makes of the end of the stack
abbrev pub brackets : List Piece → Option Shape
brackets (One Value ∷ Open ∷ below) = Some Single
brackets (Run Value ∷ Open ∷ below) = Some Several
brackets stack = None

abbrev pub closed_by : Option Shape → List Piece → List Piece
closed_by None stack = Close ∷ stack
closed_by (Some shape) stack = put shape (drop 2 stack)

-- the stack with a piece more
unfoldable pub pushed : List Piece → Piece → List Piece
pushed stack (One shape) = put shape stack
pushed stack Close = closed_by (brackets stack) stack
pushed stack piece = piece ∷ stack

-- the stack after what the lexer gives, or its fault
unfoldable pub finished : List ℕ → List Piece → List (Result Token LexFault) → Result (List Piece) LexFault
finished text stack [] = Ok stack
finished text stack (Ok token ∷ items) = finished text (pushed stack (piece_of text token)) items
finished text stack (Err fault ∷ items) = Err fault
