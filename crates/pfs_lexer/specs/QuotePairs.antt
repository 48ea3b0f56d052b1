-- What stands between quotes.
use Rattle.std.specs.Prelude.{ℕ, ◌+◌, ◌==◌, nat_lt, Bool, not, ◌&&◌, List, [], ◌∷◌, length, slice_index, Option, None, Some, option_map, if◌then◌else◌}

-- two bytes that stand for one: the quote doubled, and `\` with any byte, but between backquotes
abbrev pub is_pair : ℕ → ℕ → ℕ → Bool
is_pair quote b c = if b == quote then c == quote else (not (quote == 96) && b == 92)

-- so many bytes more
abbrev pub more : ℕ → Option ℕ → Option ℕ
more n len = option_map (λ k. n + k) len

-- how many bytes stand behind the opening quote, up to the closing one and with it, or None without an end
unfoldable pub quoted_len : ℕ → List ℕ → Option ℕ
quoted_len quote [] = None
quoted_len quote (b ∷ []) = if b == quote then Some 1 else None
quoted_len quote (b ∷ c ∷ bytes) =
    if is_pair quote b c then more 2 (quoted_len quote bytes)
    else if b == quote then Some 1
    else more 1 (quoted_len quote (c ∷ bytes))

-- such two bytes stand at a place
abbrev pub pair_at : ℕ → List ℕ → ℕ → Bool
pair_at quote bytes at =
    nat_lt (at + 1) (length bytes) && is_pair quote (slice_index bytes at) (slice_index bytes (at + 1))
