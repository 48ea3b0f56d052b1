-- Cutting a text from left to right. The definition of tokens doesn't cite this: it is what the lexer computes, and the
-- proofs show that it gives the tokens of the definition and no others.
use Rattle.std.specs.Prelude.{◌≡◌, ℕ, ◌==◌, Bool, true, false, List, [], ◌∷◌, ◌++◌, take, drop, Option, None, Some, if◌then◌else◌}
use Rattle.std.specs.List.{prefix_len}
use Rattle.pfs_text.specs.declared.conditions.Comparison.{Comparison}
use Rattle.pfs_text.specs.declared.conditions.Comparison.TheVariants.{Equal, Unequal, Less, AtMost, Greater, AtLeast}
use Rattle.pfs_sql.specs.declared.token.Token.{Token}
use Rattle.pfs_sql.specs.declared.token.Token.TheVariants.{Word, Quoted, Compares, Comma, Open, Close, Star, Semicolon}
use Rattle.pfs_sql.specs.Tokens.{is_word_byte}
use Rattle.pfs_sql.specs.TokenReaders.{◌>>=◌}

abbrev pub word_of : List ℕ → Option (Token × List ℕ)
word_of bytes = Some (Word (take (prefix_len is_word_byte bytes) bytes), drop (prefix_len is_word_byte bytes) bytes)

-- the next byte of a quoted text
unfoldable pub inner_of : List ℕ → Option (ℕ × List ℕ)
inner_of [] = None
inner_of (b ∷ []) = if b == 39 then None else Some (b, [])
inner_of (b ∷ c ∷ bytes) = if b == 39 then (if c == 39 then Some (39, bytes) else None) else Some (b, c ∷ bytes)

-- what was read of a text before is put in front
abbrev pub with_text : List ℕ → Option (List ℕ × List ℕ) → Option (List ℕ × List ℕ)
with_text front read = read >>= λ x. Some (front ++ x.0, x.1)

-- the text up to the closing `'`, and the bytes behind that
unfoldable pub inside_of : List ℕ → Option (List ℕ × List ℕ)
inside_of [] = None
inside_of (b ∷ []) = if b == 39 then Some ([], []) else None
inside_of (b ∷ c ∷ bytes) =
    if b == 39 then (if c == 39 then with_text (39 ∷ []) (inside_of bytes) else Some ([], c ∷ bytes))
    else with_text (b ∷ []) (inside_of (c ∷ bytes))

abbrev pub quoted_of : List ℕ → Option (Token × List ℕ)
quoted_of bytes = inside_of bytes >>= λ x. Some (Quoted x.0, x.1)

-- the text, where its closing `'` stands at the front
abbrev pub closed_of : List ℕ → List ℕ → Option (Token × List ℕ)
closed_of text [] = None
closed_of text (b ∷ bytes) = if b == 39 then Some (Quoted text, bytes) else None

abbrev pub less_of : List ℕ → Option (Comparison × List ℕ)
less_of [] = Some (Less, [])
less_of (b ∷ bytes) = if b == 62 then Some (Unequal, bytes) else if b == 61 then Some (AtMost, bytes)
    else Some (Less, b ∷ bytes)

abbrev pub greater_of : List ℕ → Option (Comparison × List ℕ)
greater_of [] = Some (Greater, [])
greater_of (b ∷ bytes) = if b == 61 then Some (AtLeast, bytes) else Some (Greater, b ∷ bytes)

abbrev pub unequal_of : List ℕ → Option (Comparison × List ℕ)
unequal_of [] = None
unequal_of (b ∷ bytes) = if b == 61 then Some (Unequal, bytes) else None

abbrev pub sign_of : List ℕ → Option (Comparison × List ℕ)
sign_of [] = None
sign_of (b ∷ bytes) =
    if b == 61 then Some (Equal, bytes)
    else if b == 33 then unequal_of bytes
    else if b == 60 then less_of bytes
    else if b == 62 then greater_of bytes
    else None

abbrev pub mark_of : List ℕ → Option (Token × List ℕ)
mark_of [] = None
mark_of (b ∷ bytes) =
    if b == 44 then Some (Comma, bytes)
    else if b == 40 then Some (Open, bytes)
    else if b == 41 then Some (Close, bytes)
    else if b == 42 then Some (Star, bytes)
    else if b == 59 then Some (Semicolon, bytes)
    else sign_of (b ∷ bytes) >>= λ x. Some (Compares x.0, x.1)

unfoldable pub token_of : List ℕ → Option (Token × List ℕ)
token_of [] = None
token_of (b ∷ bytes) =
    if b == 39 then quoted_of bytes
    else if is_word_byte b then word_of (b ∷ bytes)
    else mark_of (b ∷ bytes)
