-- Comments.
use Rattle.std.specs.Prelude.{ℕ, ◌==◌, nat_eq, Bool, ◌||◌, ◌&&◌, List, [], ◌∷◌, length, Option, None, Some, codes, if◌then◌else◌}
use Rattle.std.specs.List.{starts_with}
use Rattle.pfs_lexer.specs.Classes.{is_blank, byte_at}
use Rattle.pfs_lexer.specs.QuotePairs.{more}

-- `#`, or `--` with white space or the end of the text behind it
abbrev pub begins_line_comment : List ℕ → Bool
begins_line_comment bytes =
    byte_at bytes 0 == 35
    || (starts_with nat_eq bytes (codes "--") && (length bytes == 2 || is_blank (byte_at bytes 2)))

abbrev pub begins_comment : List ℕ → Bool
begins_comment bytes = starts_with nat_eq bytes (codes "/*")

-- how many bytes there are up to the first `*/` and with it, or None where there is none
unfoldable pub comment_len : List ℕ → Option ℕ
comment_len [] = None
comment_len (b ∷ bytes) =
    if starts_with nat_eq (b ∷ bytes) (codes "*/") then Some 2 else more 1 (comment_len bytes)
