-- The bytes of the pieces.
use Rattle.std.specs.Prelude.{ℕ, List, map, codes}
use Rattle.std.specs.List.{join_with_byte}
use Rattle.pfs_lexer.specs.declared.tokens.TokenKind.{TokenKind}
use Rattle.pfs_lexer.specs.declared.tokens.TokenKind.TheVariants.{String, QuotedName, Number, Word, Operator}
use Rattle.pfs_digest.specs.declared.pieces.Shape.TheVariants.{Value, Single, Several}
use Rattle.pfs_digest.specs.declared.pieces.Piece.{Piece}
use Rattle.pfs_digest.specs.declared.pieces.Piece.TheVariants.{One, Run, Open, Close, Comma, Semicolon, Plain}
use Rattle.pfs_digest.specs.TokenPieces.{slice_of}
use Rattle.pfs_digest.specs.Keywords.{word_text}

-- A quoted name and an operator stand as they are written.
abbrev pub token_text : TokenKind → List ℕ → List ℕ
token_text String bytes = bytes
token_text QuotedName bytes = bytes
token_text Number bytes = bytes
token_text Word bytes = word_text bytes
token_text Operator bytes = bytes

unfoldable pub printed : List ℕ → Piece → List ℕ
printed text (One Value) = codes "?"
printed text (One Single) = codes "(?)"
printed text (One Several) = codes "(...)"
printed text (Run Value) = codes "?, ..."
printed text (Run Single) = codes "(?) /* , ... */"
printed text (Run Several) = codes "(...) /* , ... */"
printed text Open = codes "("
printed text Close = codes ")"
printed text Comma = codes ","
printed text Semicolon = codes ";"
printed text (Plain token) = token_text token.kind (slice_of text token)

-- one space between each two
abbrev pub spelled : List ℕ → List Piece → List ℕ
spelled text pieces = join_with_byte 32 (map (λ piece. printed text piece) pieces)
