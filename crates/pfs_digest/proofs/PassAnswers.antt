-- What the pass answers is the digest text, or the fault.
use Rattle.std.proofs.Common.{◌≡◌, ℕ, true, List, [], ◌∷◌, map, reverse, codes, Result, Ok, Err, refl, ap, sym, ◌∙◌}
use Rattle.std.specs.Str.{bytes_eq}
use Rattle.std.proofs.lemmas.Bool.{cond_both}
use Rattle.pfs_lexer.specs.declared.tokens.TokenKind.{TokenKind}
use Rattle.pfs_lexer.specs.declared.tokens.TokenKind.TheVariants.{String, QuotedName, Number, Word, Operator}
use Rattle.pfs_lexer.specs.declared.tokens.Token.{Token}
use Rattle.pfs_lexer.specs.declared.tokens.LexFault.{LexFault}
use Rattle.pfs_lexer.specs.TextItems.{items_of}
use Rattle.pfs_digest.specs.declared.pieces.Shape.TheVariants.{Value}
use Rattle.pfs_digest.specs.declared.pieces.Piece.{Piece}
use Rattle.pfs_digest.specs.declared.pieces.Piece.TheVariants.{One, Open, Close, Comma, Semicolon, Plain}
use Rattle.pfs_digest.specs.declared.digests.DigestFault.{DigestFault}
use Rattle.pfs_digest.specs.declared.digests.DigestFault.TheVariants.{Lex, NoMemory}
use Rattle.pfs_digest.specs.TokenPieces.{slice_of, operator_of, piece_by, piece_of}
use Rattle.pfs_digest.specs.Reduction.{without_last}
use Rattle.pfs_digest.specs.Stack.{pushed, finished}
use Rattle.pfs_digest.specs.PieceBytes.{spelled}
use Rattle.pfs_digest.specs.Digest.{before, tokens_of, text_of, digest_text_of, Fails}
use Rattle.pfs_digest.proofs.ListFolds.{left}
use Rattle.pfs_digest.proofs.Fusion.{push_one, is_base, AllBase, reduced-is}

pub finished-none : (text : List ℕ) (stack : List Piece) → finished text stack [] ≡ Ok stack
unfolding finished
finished-none text stack = refl

pub finished-more : (text : List ℕ) (stack : List Piece) (token : Token) (items : List (Result Token LexFault)) → finished text stack (Ok token ∷ items) ≡ finished text (pushed stack (piece_of text token)) items
unfolding finished
finished-more text stack token items = refl

pub finished-fault : (text : List ℕ) (stack : List Piece) (fault : LexFault) (items : List (Result Token LexFault)) → finished text stack (Err fault ∷ items) ≡ Err fault
unfolding finished
finished-fault text stack fault items = refl

operator-base : (token : Token) (bytes : List ℕ) → is_base (operator_of token bytes) ≡ true
operator-base token bytes =
    cond_both (bytes_eq bytes (codes "?")) (One Value) _ (λ p. is_base p ≡ true) (λ _. refl)
    (λ _. cond_both (bytes_eq bytes (codes "(")) Open _ (λ p. is_base p ≡ true) (λ _. refl)
    (λ _. cond_both (bytes_eq bytes (codes ")")) Close _ (λ p. is_base p ≡ true) (λ _. refl)
    (λ _. cond_both (bytes_eq bytes (codes ",")) Comma _ (λ p. is_base p ≡ true) (λ _. refl)
    (λ _. cond_both (bytes_eq bytes (codes ";")) Semicolon (Plain token) (λ p. is_base p ≡ true) (λ _. refl)
    (λ _. refl)))))

kind-base : (kind : TokenKind) (text : List ℕ) (token : Token) → is_base (piece_by kind text token) ≡ true
kind-base String text token = refl
kind-base QuotedName text token = refl
kind-base Number text token = refl
kind-base Word text token = refl
kind-base Operator text token = operator-base token (slice_of text token)

token-base : (text : List ℕ) (token : Token) → is_base (piece_of text token) ≡ true
unfolding piece_of
token-base text token = kind-base token.kind text token

all-base : (text : List ℕ) (tokens : List Token) → AllBase (map (λ token. piece_of text token) tokens)
all-base text [] = tt
all-base text (token ∷ tokens) = (token-base text token, all-base text tokens)

-- the stack after the tokens, unless there is a fault
abbrev stacked : List ℕ → List Piece → Result (List Token) LexFault → Result (List Piece) LexFault
stacked text stack (Ok tokens) = Ok (left push_one stack (map (λ token. piece_of text token) tokens))
stacked text stack (Err fault) = Err fault

stacked-before : (text : List ℕ) (stack : List Piece) (token : Token) (tokens : Result (List Token) LexFault) → stacked text (pushed stack (piece_of text token)) tokens ≡ stacked text stack (before token tokens)
stacked-before text stack token (Ok tokens) = refl
stacked-before text stack token (Err fault) = refl

finished-is : (text : List ℕ) (stack : List Piece) (items : List (Result Token LexFault)) → finished text stack items ≡ stacked text stack (tokens_of items)
unfolding tokens_of
finished-is text stack [] = finished-none text stack
finished-is text stack (Ok token ∷ items) =
    finished-more text stack token items
    ∙ finished-is text (pushed stack (piece_of text token)) items
    ∙ stacked-before text stack token (tokens_of items)
finished-is text stack (Err fault ∷ items) = finished-fault text stack fault items

stack-text : (text : List ℕ) (stack : List Piece) (tokens : Result (List Token) LexFault) → stacked text [] tokens ≡ Ok (reverse stack) → text_of text tokens ≡ Ok (spelled text (without_last stack))
stack-text text stack (Ok tokens) e =
    let pieces : List Piece = map (λ token. piece_of text token) tokens in
    let made : left push_one [] pieces ≡ reverse stack = cc e in
    ap (λ p. Ok (spelled text p)) (sym (reduced-is pieces stack (all-base text tokens) (sym made)))
stack-text text stack (Err fault) e = absurd (cc e)

stack-fault : (text : List ℕ) (fault : LexFault) (tokens : Result (List Token) LexFault) → stacked text [] tokens ≡ Err fault → text_of text tokens ≡ Err fault
stack-fault text fault (Ok tokens) e = absurd (cc e)
stack-fault text fault (Err other) e =
    let same : other ≡ fault = cc e in
    ap Err same

pub text-is : (text : List ℕ) (stack : List Piece) → finished text [] (items_of text) ≡ Ok (reverse stack) → digest_text_of text ≡ Ok (spelled text (without_last stack))
unfolding digest_text_of
text-is text stack e = stack-text text stack (tokens_of (items_of text)) (sym (finished-is text [] (items_of text)) ∙ e)

pub fault-is : (text : List ℕ) (fault : LexFault) → finished text [] (items_of text) ≡ Err fault → digest_text_of text ≡ Err fault
unfolding digest_text_of
fault-is text fault e = stack-fault text fault (tokens_of (items_of text)) (sym (finished-is text [] (items_of text)) ∙ e)

-- the answer where there is no stack
pub no-stack : (text : List ℕ) (fault : DigestFault) → Fails fault (finished text [] (items_of text)) → Fails fault (digest_text_of text)
no-stack text (Lex fault) e = fault-is text fault e
no-stack text NoMemory e = tt

-- the pass goes on with a token
pub on-token : (text : List ℕ) (stack next : List Piece) (token : Token) (piece : Piece) (item : Result Token LexFault) (items rest : List (Result Token LexFault)) (due : Result (List Piece) LexFault) → finished text stack items ≡ due → items ≡ item ∷ rest → item ≡ Ok token → piece ≡ piece_of text token → next ≡ pushed stack piece → finished text next rest ≡ due
on-token text stack next token piece item items rest due kept first is made put =
    ap (λ s. finished text s rest) (put ∙ ap (pushed stack) made)
    ∙ sym (finished-more text stack token rest)
    ∙ ap (λ i. finished text stack (i ∷ rest)) (sym is)
    ∙ ap (finished text stack) (sym first) ∙ kept

pub on-fault : (text : List ℕ) (stack : List Piece) (fault : LexFault) (item : Result Token LexFault) (items rest : List (Result Token LexFault)) (due : Result (List Piece) LexFault) → finished text stack items ≡ due → items ≡ item ∷ rest → item ≡ Err fault → due ≡ Err fault
on-fault text stack fault item items rest due kept first is =
    sym kept ∙ ap (finished text stack) (first ∙ ap (λ i. i ∷ rest) is) ∙ finished-fault text stack fault rest

pub on-end : (text : List ℕ) (stack : List Piece) (items : List (Result Token LexFault)) (due : Result (List Piece) LexFault) → finished text stack items ≡ due → items ≡ [] → due ≡ Ok stack
on-end text stack items due kept none = sym kept ∙ ap (finished text stack) none ∙ finished-none text stack
