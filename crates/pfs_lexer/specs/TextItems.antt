-- What the lexer gives for a text.
use Rattle.std.specs.Prelude.{ℕ, zero, suc, ◌+◌, ◌-◌, List, [], ◌∷◌, Result, Ok, Err}
use Rattle.pfs_lexer.specs.declared.tokens.TokenKind.{TokenKind}
use Rattle.pfs_lexer.specs.declared.tokens.Token.{Token}
use Rattle.pfs_lexer.specs.declared.tokens.LexFault.{LexFault}
use Rattle.pfs_lexer.specs.declared.tokens.LexFault.TheVariants as faults
use Rattle.pfs_lexer.specs.declared.fronts.Front.{Front}
use Rattle.pfs_lexer.specs.declared.fronts.Front.TheVariants as fronts
use Rattle.pfs_lexer.specs.Fronts.{front_of}

-- a token by its first byte and its length
abbrev pub token_at : TokenKind → ℕ → ℕ → Token
token_at kind place len = record { kind = kind; start = place; end = place + len }

-- What stands at a place, and what comes so many bytes behind it. Nothing comes behind a fault.
abbrev pub placed : ℕ → Front → (ℕ → List (Result Token LexFault)) → List (Result Token LexFault)
placed place (fronts.Blank len) behind = behind len
placed place (fronts.Piece kind len) behind = Ok (token_at kind place len) ∷ behind len
placed place fronts.OpenString behind = Err (faults.OpenString place) ∷ []
placed place fronts.OpenComment behind = Err (faults.OpenComment place) ∷ []
placed place fronts.BadByte behind = Err (faults.BadByte place) ∷ []

-- What the lexer gives for the bytes from a place on, of which the first, so many, belong to what stood before.
unfoldable pub items_from : ℕ → ℕ → List ℕ → List (Result Token LexFault)
items_from place covered [] = []
items_from place (suc covered) (byte ∷ bytes) = items_from (place + 1) covered bytes
items_from place zero (byte ∷ bytes) =
    placed place (front_of (byte ∷ bytes)) (λ len. items_from (place + 1) (len - 1) bytes)

-- What the lexer gives for a text: its tokens in order, or those before the first fault and then the fault.
abbrev pub items_of : List ℕ → List (Result Token LexFault)
items_of text = items_from 0 0 text
