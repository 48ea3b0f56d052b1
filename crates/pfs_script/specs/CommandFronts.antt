-- How an SQL command begins.
use Rattle.std.specs.Prelude.{ℕ, ◌==◌, ◌&&◌, ◌||◌, Bool, not, nat_le, List, [], length, take, drop, option_map, unwrap_or, position}
use Rattle.std.specs.Str.{str_eq_ignore_ascii_case}

-- neither a space nor a tab
abbrev pub is_solid : ℕ → Bool
is_solid byte = not ((byte == 32) || (byte == 9))

-- a command behind the spaces and tabs before it
unfoldable pub command_of : List ℕ → List ℕ
command_of text = unwrap_or (option_map (λ at. drop at text) (position is_solid text)) []

-- the command begins with these letters, in any case
unfoldable pub begins_with : List ℕ → List ℕ → Bool
begins_with letters text =
    nat_le (length letters) (length (command_of text))
    && str_eq_ignore_ascii_case (take (length letters) (command_of text)) letters
