-- One step on through a text.
use Rattle.std.proofs.Common.{◌≡◌, ℕ, zero, suc, ◌+◌, ◌-◌, ◌<◌, ◌≤◌, List, [], ◌∷◌, length, drop, Result, Ok, Err, refl, ap, sym, ◌∙◌, arith}
use Rattle.std.proofs.lemmas.List.{drop_more, drop_all, drop-drop}
use Rattle.pfs_lexer.specs.declared.tokens.TokenKind.{TokenKind}
use Rattle.pfs_lexer.specs.declared.tokens.Token.{Token}
use Rattle.pfs_lexer.specs.declared.tokens.LexFault.{LexFault}
use Rattle.pfs_lexer.specs.declared.tokens.LexFault.TheVariants as faults
use Rattle.pfs_lexer.specs.declared.fronts.Front.{Front}
use Rattle.pfs_lexer.specs.declared.fronts.Front.TheVariants as fronts
use Rattle.pfs_lexer.specs.Fronts.{front_of}
use Rattle.pfs_lexer.specs.TextItems.{token_at, placed, items_from}

-- the covered bytes give nothing
pub items-covered : (place covered : ℕ) (bytes : List ℕ) → items_from place covered bytes ≡ items_from (place + covered) 0 (drop covered bytes)
unfolding items_from
items-covered place zero bytes = ap (λ k. items_from k 0 bytes) (omega arith)
items-covered place (suc covered) [] = refl
items-covered place (suc covered) (byte ∷ bytes) =
    items-covered (place + 1) covered bytes ∙ ap (λ k. items_from k 0 (drop covered bytes)) (omega arith)

pub items-here : (place byte : ℕ) (bytes : List ℕ) → items_from place 0 (byte ∷ bytes) ≡ placed place (front_of (byte ∷ bytes)) (λ len. items_from (place + 1) (len - 1) bytes)
unfolding items_from
items-here place byte bytes = refl

pub items-past : (place : ℕ) → items_from place 0 [] ≡ []
unfolding items_from
items-past place = refl

-- what comes behind so many bytes of a text
behind_is : (place len : ℕ) (text : List ℕ) → 0 < len → items_from (place + 1) (len - 1) (drop (place + 1) text) ≡ items_from (place + len) 0 (drop (place + len) text)
behind_is place len text h =
    let e : place + 1 + (len - 1) ≡ place + len = omega arith in
    items-covered (place + 1) (len - 1) (drop (place + 1) text)
    ∙ ap (λ r. items_from (place + 1 + (len - 1)) 0 r) (drop-drop (len - 1) (place + 1) text)
    ∙ ap (λ k. items_from k 0 (drop k text)) e

pub items-behind : (place len b : ℕ) (bytes : List ℕ) → 0 < len → items_from (place + 1) (len - 1) bytes ≡ items_from (place + len) 0 (drop len (b ∷ bytes))
items-behind place len b bytes some =
    let at : place + 1 + (len - 1) ≡ place + len = omega arith in
    let one : suc (len - 1) ≡ len = omega arith in
    items-covered (place + 1) (len - 1) bytes ∙ ap (λ k. items_from k 0 (drop (len - 1) bytes)) at
    ∙ ap (λ k. items_from (place + len) 0 (drop k (b ∷ bytes))) one

-- the items from a place on, by what stands there
items-at : (place : ℕ) (text : List ℕ) → place < length text → items_from place 0 (drop place text) ≡ placed place (front_of (drop place text)) (λ len. items_from (place + 1) (len - 1) (drop (place + 1) text))
items-at place text h =
    let here = drop_more text place 0 h in
    ap (items_from place 0) here ∙ items-here place _ _
    ∙ ap (λ r. placed place (front_of r) (λ len. items_from (place + 1) (len - 1) (drop (place + 1) text))) (sym here)

pub at_blank : (place len : ℕ) (text : List ℕ) → place < length text → front_of (drop place text) ≡ fronts.Blank len → 0 < len → items_from place 0 (drop place text) ≡ items_from (place + len) 0 (drop (place + len) text)
at_blank place len text h e some =
    items-at place text h
    ∙ ap (λ f. placed place f (λ len. items_from (place + 1) (len - 1) (drop (place + 1) text))) e
    ∙ behind_is place len text some

pub at_piece : (place len : ℕ) (kind : TokenKind) (text : List ℕ) → place < length text → front_of (drop place text) ≡ fronts.Piece kind len → 0 < len → items_from place 0 (drop place text) ≡ Ok (token_at kind place len) ∷ items_from (place + len) 0 (drop (place + len) text)
at_piece place len kind text h e some =
    items-at place text h
    ∙ ap (λ f. placed place f (λ len. items_from (place + 1) (len - 1) (drop (place + 1) text))) e
    ∙ ap (λ r. Ok (token_at kind place len) ∷ r) (behind_is place len text some)

-- nothing stands at the end
pub at_end : (place : ℕ) (text : List ℕ) → length text ≤ place → items_from place 0 (drop place text) ≡ []
at_end place text h = ap (items_from place 0) (drop_all place text h) ∙ items-past place

-- a fault, and nothing behind it
at_fault : (place : ℕ) (fault : LexFault) (front : Front) (text : List ℕ) → place < length text → front_of (drop place text) ≡ front → ((behind : ℕ → List (Result Token LexFault)) → placed place front behind ≡ Err fault ∷ []) → items_from place 0 (drop place text) ≡ Err fault ∷ items_from (length text) 0 (drop (length text) text)
at_fault place fault front text h e is =
    items-at place text h
    ∙ ap (λ f. placed place f (λ len. items_from (place + 1) (len - 1) (drop (place + 1) text))) e
    ∙ is (λ len. items_from (place + 1) (len - 1) (drop (place + 1) text))
    ∙ ap (λ r. Err fault ∷ r) (sym (at_end (length text) text (omega arith)))

pub at_open_string : (place : ℕ) (text : List ℕ) → place < length text → front_of (drop place text) ≡ fronts.OpenString → items_from place 0 (drop place text) ≡ Err (faults.OpenString place) ∷ items_from (length text) 0 (drop (length text) text)
at_open_string place text h e = at_fault place (faults.OpenString place) fronts.OpenString text h e (λ _. refl)

pub at_open_comment : (place : ℕ) (text : List ℕ) → place < length text → front_of (drop place text) ≡ fronts.OpenComment → items_from place 0 (drop place text) ≡ Err (faults.OpenComment place) ∷ items_from (length text) 0 (drop (length text) text)
at_open_comment place text h e = at_fault place (faults.OpenComment place) fronts.OpenComment text h e (λ _. refl)

pub at_bad_byte : (place : ℕ) (text : List ℕ) → place < length text → front_of (drop place text) ≡ fronts.BadByte → items_from place 0 (drop place text) ≡ Err (faults.BadByte place) ∷ items_from (length text) 0 (drop (length text) text)
at_bad_byte place text h e = at_fault place (faults.BadByte place) fronts.BadByte text h e (λ _. refl)
