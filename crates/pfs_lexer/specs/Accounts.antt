-- A text and what the lexer gives for it, byte by byte.
use Rattle.std.specs.Prelude.{◌≡◌, ◌≢◌, ℕ, ◌+◌, ◌<◌, ◌≤◌, ◌==◌, true, false, not, List, [], ◌∷◌, ◌++◌, length, take, nat_eq, codes, ◌⊎◌, Result, Ok, Err}
use Rattle.std.specs.List.{concat, list_all, starts_with}
use Rattle.pfs_lexer.specs.declared.tokens.TokenKind.{TokenKind}
use Rattle.pfs_lexer.specs.declared.tokens.TokenKind.TheVariants.{String, QuotedName, Number, Word, Operator}
use Rattle.pfs_lexer.specs.declared.tokens.Token.{Token}
use Rattle.pfs_lexer.specs.declared.tokens.LexFault.{LexFault}
use Rattle.pfs_lexer.specs.declared.tokens.LexFault.TheVariants as faults
use Rattle.pfs_lexer.specs.Classes.{is_blank}
use Rattle.pfs_lexer.specs.TextItems.{items_of}
use Rattle.pfs_lexer.specs.TokenGrammar.{IsBetween, IsBody, IsToken, begins_nothing}

-- the line, or the text, ends here
abbrev pub EndsLine : List ℕ → Type 0
EndsLine [] = Unit {0}
EndsLine (b ∷ bytes) = b ≡ 10

-- white space or the end of the text stands here
abbrev pub BeginsBlank : List ℕ → Type 0
BeginsBlank [] = Unit {0}
BeginsBlank (b ∷ bytes) = is_blank b ≡ true

-- a comment begins here: `#`, or `--` where white space or the end of the text follows, or `/*`
abbrev pub BeginsComment : List ℕ → Type 0
BeginsComment bytes = (rest : List ℕ)
    × ((bytes ≡ codes "#" ++ rest) ⊎ (((bytes ≡ codes "--" ++ rest) × BeginsBlank rest) ⊎ (bytes ≡ codes "/*" ++ rest)))

-- the byte stands first
abbrev pub BeginsWith : ℕ → List ℕ → Type 0
BeginsWith q [] = ⊥
BeginsWith q (b ∷ bytes) = b ≡ q

-- a string or a quoted name isn't at its end where its own quote stands behind it
abbrev pub GoesOn : TokenKind → List ℕ → List ℕ → Type 0
GoesOn String body more = (IsBetween 39 body × BeginsWith 39 more) ⊎ (IsBetween 34 body × BeginsWith 34 more)
GoesOn QuotedName body more = IsBetween 96 body × BeginsWith 96 more
GoesOn Number body more = ⊥
GoesOn Word body more = ⊥
GoesOn Operator body more = ⊥

-- `*/` begins at none of the first bytes
abbrev pub HasNoClose : List ℕ → List ℕ → Type 0
HasNoClose [] after = Unit {0}
HasNoClose (b ∷ bytes) after = (starts_with nat_eq (b ∷ (bytes ++ after)) (codes "*/") ≡ false) × HasNoClose bytes after

-- `#`, or `--` where white space or the end of the text follows, up to the end of the line
abbrev pub IsLineComment : List ℕ → List ℕ → Type 0
IsLineComment piece after = (line : List ℕ)
    × ((piece ≡ codes "#" ++ line) ⊎ ((piece ≡ codes "--" ++ line) × BeginsBlank (line ++ after)))
    × (list_all (λ b. not (b == 10)) line ≡ true) × EndsLine after

-- `/*` up to the next `*/`
abbrev pub IsComment : List ℕ → List ℕ → Type 0
IsComment piece after = (body : List ℕ) × (piece ≡ codes "/*" ++ (body ++ codes "*/"))
    × HasNoClose body (codes "*/" ++ after)

-- the pieces are white space and comments, where these bytes stand behind them
abbrev pub AreBlanks : List (List ℕ) → List ℕ → Type 0
AreBlanks [] after = Unit {0}
AreBlanks (piece ∷ pieces) after =
    (((b : ℕ) × (piece ≡ b ∷ []) × (is_blank b ≡ true))
    ⊎ (IsLineComment piece (concat pieces ++ after) ⊎ IsComment piece (concat pieces ++ after)))
    × AreBlanks pieces after

-- no end comes: the quotes' body reaches the end of the text, a last lone `\` included
abbrev pub IsOpen : ℕ → List ℕ → Type 0
IsOpen quote bytes = (body : List ℕ) × IsBody quote body
    × ((bytes ≡ quote ∷ body) ⊎ ((quote ≢ 96) × (bytes ≡ quote ∷ (body ++ 92 ∷ []))))

-- why the bytes from the place on begin with no token
abbrev pub IsFault : LexFault → ℕ → List ℕ → Type 0
IsFault (faults.OpenString at) place bytes = (at ≡ place) × (IsOpen 39 bytes ⊎ (IsOpen 34 bytes ⊎ IsOpen 96 bytes))
IsFault (faults.OpenComment at) place bytes =
    (at ≡ place) × (rest : List ℕ) × (bytes ≡ codes "/*" ++ rest) × HasNoClose rest []
IsFault (faults.BadByte at) place bytes =
    (at ≡ place) × (b : ℕ) × (rest : List ℕ) × (bytes ≡ b ∷ rest) × (begins_nothing b ≡ true)

-- no longer front of the bytes from a token's start on is a token, of any kind
abbrev pub IsLongest : List ℕ → List ℕ → Type 0
IsLongest body more = (kind : TokenKind) (n : ℕ) → 0 < n → n ≤ length more → IsToken kind (body ++ take n more) → ⊥

-- The text from a place on is blanks and tokens in turn, and all of it stands in one of them: each token is of its
-- kind, the longest there, begins behind the blanks before it, where no comment begins, doesn't go on behind its end,
-- and ends where the next blanks begin. A fault comes last.
abbrev pub Accounts : ℕ → List ℕ → List (Result Token LexFault) → Type 0
Accounts place bytes [] = (blanks : List (List ℕ)) × (bytes ≡ concat blanks) × AreBlanks blanks []
Accounts place bytes (Ok token ∷ items) = (blanks : List (List ℕ)) × (body : List ℕ) × (more : List ℕ)
    × (bytes ≡ concat blanks ++ (body ++ more)) × AreBlanks blanks (body ++ more)
    × (token.start ≡ place + length (concat blanks)) × (token.end ≡ token.start + length body)
    × IsToken token.kind body × IsLongest body more × (¬ BeginsComment (body ++ more)) × (¬ GoesOn token.kind body more)
    × Accounts token.end more items
Accounts place bytes (Err fault ∷ items) = (blanks : List (List ℕ)) × (bad : List ℕ)
    × (bytes ≡ concat blanks ++ bad) × AreBlanks blanks bad × IsFault fault (place + length (concat blanks)) bad
    × (items ≡ [])

-- whatever accounts for a text is what the lexer gives for it
abbrev pub OneReading : Type 0
OneReading = (text : List ℕ) (items : List (Result Token LexFault)) → Accounts 0 text items → items ≡ items_of text
