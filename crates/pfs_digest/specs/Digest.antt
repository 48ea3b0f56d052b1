-- The digest text of a statement.
use Rattle.std.specs.Prelude.{◌≡◌, ℕ, List, [], ◌∷◌, map, Result, Ok, Err}
use Rattle.pfs_lexer.specs.declared.tokens.Token.{Token}
use Rattle.pfs_lexer.specs.declared.tokens.LexFault.{LexFault}
use Rattle.pfs_lexer.specs.TextItems.{items_of}
use Rattle.pfs_digest.specs.declared.digests.DigestFault.{DigestFault}
use Rattle.pfs_digest.specs.declared.digests.DigestFault.TheVariants.{Lex, NoMemory}
use Rattle.pfs_digest.specs.TokenPieces.{piece_of}
use Rattle.pfs_digest.specs.Reduction.{reduced}
use Rattle.pfs_digest.specs.PieceBytes.{spelled}

-- a token before the others, unless a fault stands among them
abbrev pub before : Token → Result (List Token) LexFault → Result (List Token) LexFault
before token (Ok tokens) = Ok (token ∷ tokens)
before token (Err fault) = Err fault

-- the tokens that the lexer gives, or its fault
unfoldable pub tokens_of : List (Result Token LexFault) → Result (List Token) LexFault
tokens_of [] = Ok []
tokens_of (Ok token ∷ items) = before token (tokens_of items)
tokens_of (Err fault ∷ items) = Err fault

-- the text of the tokens, made short, unless there is a fault
abbrev pub text_of : List ℕ → Result (List Token) LexFault → Result (List ℕ) LexFault
text_of text (Ok tokens) = Ok (spelled text (reduced (map (λ token. piece_of text token) tokens)))
text_of text (Err fault) = Err fault

-- The digest text, or the lexer's fault exactly where it has one.
unfoldable pub digest_text_of : List ℕ → Result (List ℕ) LexFault
digest_text_of text = text_of text (tokens_of (items_of text))

-- the fault is the one that is due, unless memory ran out
abbrev pub Fails : {B : Type 0} → DigestFault → Result B LexFault → Type 0
Fails (Lex fault) due = due ≡ Err fault
Fails NoMemory due = Unit {0}

-- what was answered, seen by view, is what is due, unless memory ran out
abbrev pub Gives : {A B : Type 0} → (A → B) → Result A DigestFault → Result B LexFault → Type 0
Gives view (Ok answer) due = due ≡ Ok (view answer)
Gives view (Err fault) due = Fails fault due
