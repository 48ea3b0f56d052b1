-- What stands at the front of a text that is not empty.
use Rattle.std.specs.Prelude.{ℕ, ◌+◌, ◌<◌, ◌≤◌, ◌==◌, ◌||◌, nat_lt, List, drop, Option, None, Some, if◌then◌else◌}
use Rattle.std.specs.List.{prefix_len, position_or_len}
use Rattle.std.specs.Char.{is_ascii_digit}
use Rattle.pfs_lexer.specs.declared.tokens.TokenKind.{TokenKind}
use Rattle.pfs_lexer.specs.declared.tokens.TokenKind.TheVariants.{String, QuotedName, Number, Word, Operator}
use Rattle.pfs_lexer.specs.declared.fronts.Front.{Front}
use Rattle.pfs_lexer.specs.declared.fronts.Front.TheVariants.{Blank, Piece, OpenString, OpenComment, BadByte}
use Rattle.pfs_lexer.specs.Classes.{is_blank, is_word_start, is_word_byte, byte_at}
use Rattle.pfs_lexer.specs.Comments.{begins_line_comment, begins_comment, comment_len}
use Rattle.pfs_lexer.specs.QuotePairs.{quoted_len}
use Rattle.pfs_lexer.specs.Numbers.{number_len}
use Rattle.pfs_lexer.specs.Operators.{operator_len}

-- a token from quote to quote, or an open one
abbrev pub closed : TokenKind → Option ℕ → Front
closed kind None = OpenString
closed kind (Some len) = Piece kind (1 + len)

-- a comment up to its `*/`, or an open one
abbrev pub commented : Option ℕ → Front
commented None = OpenComment
commented (Some len) = Blank (2 + len)

-- a token, or a byte that begins none
unfoldable pub token_of : List ℕ → Front
token_of bytes =
    let byte = byte_at bytes 0 in
    if byte == 39 || byte == 34 then closed String (quoted_len byte (drop 1 bytes))
    else if byte == 96 then closed QuotedName (quoted_len byte (drop 1 bytes))
    else if is_ascii_digit byte then Piece Number (number_len bytes)
    else if is_word_start byte then Piece Word (1 + prefix_len is_word_byte (drop 1 bytes))
    else if nat_lt 0 (operator_len bytes) then Piece Operator (operator_len bytes)
    else BadByte

-- white space or a comment, or a token: a comment goes before the operators that it begins with
unfoldable pub front_of : List ℕ → Front
front_of bytes =
    if is_blank (byte_at bytes 0) then Blank 1
    else if begins_line_comment bytes then Blank (1 + position_or_len (λ b. b == 10) (drop 1 bytes))
    else if begins_comment bytes then commented (comment_len (drop 2 bytes))
    else token_of bytes

-- what stands there has at least a byte, and no more than there are
abbrev pub IsWithin : ℕ → Front → Type 0
IsWithin most (Blank len) = (0 < len) × (len ≤ most)
IsWithin most (Piece kind len) = (0 < len) × (len ≤ most)
IsWithin most OpenString = Unit {0}
IsWithin most OpenComment = Unit {0}
IsWithin most BadByte = Unit {0}
