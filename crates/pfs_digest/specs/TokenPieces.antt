-- The tokens of a text as pieces of its digest text.
use Rattle.std.specs.Prelude.{ℕ, ◌-◌, List, take, drop, codes, if◌then◌else◌}
use Rattle.std.specs.Str.{bytes_eq}
use Rattle.pfs_lexer.specs.declared.tokens.TokenKind.{TokenKind}
use Rattle.pfs_lexer.specs.declared.tokens.TokenKind.TheVariants.{String, QuotedName, Number, Word, Operator}
use Rattle.pfs_lexer.specs.declared.tokens.Token.{Token}
use Rattle.pfs_digest.specs.declared.pieces.Shape.TheVariants.{Value}
use Rattle.pfs_digest.specs.declared.pieces.Piece.{Piece}
use Rattle.pfs_digest.specs.declared.pieces.Piece.TheVariants.{One, Open, Close, Comma, Semicolon, Plain}

-- the bytes from a token's start up to its end
abbrev pub slice_of : List ℕ → Token → List ℕ
slice_of text token = take (token.end - token.start) (drop token.start text)

-- an operator as a piece
abbrev pub operator_of : Token → List ℕ → Piece
operator_of token bytes =
    if bytes_eq bytes (codes "?") then One Value
    else if bytes_eq bytes (codes "(") then Open
    else if bytes_eq bytes (codes ")") then Close
    else if bytes_eq bytes (codes ",") then Comma
    else if bytes_eq bytes (codes ";") then Semicolon
    else Plain token

-- every string, every number and every `?` becomes `?`
abbrev pub piece_by : TokenKind → List ℕ → Token → Piece
piece_by String text token = One Value
piece_by QuotedName text token = Plain token
piece_by Number text token = One Value
piece_by Word text token = Plain token
piece_by Operator text token = operator_of token (slice_of text token)

unfoldable pub piece_of : List ℕ → Token → Piece
piece_of text token = piece_by token.kind text token
