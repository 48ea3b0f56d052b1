-- A digest text has only printable bytes beside those of the statement's text.
use Rattle.std.proofs.Common.{ℕ, ◌≡◌, ◌-◌, Bool, true, false, cond, ◌&&◌, nat_le, List, [], ◌∷◌, ◌++◌, map, take, drop, Option, Some, None, Result, Ok, Err, refl, subst}
use Rattle.std.specs.Prelude.{IfSome, codes}
use Rattle.std.specs.List.{All, AllByRecursion, find, join_with_byte, list_all}
use Rattle.std.proofs.lemmas.Bool.{and_parts}
use Rattle.std.proofs.lemmas.List.Elements.{All-nil, All-cons, All-append, All-drop, All-take}
use Rattle.pfs_lexer.specs.declared.tokens.LexFault.{LexFault}
use Rattle.pfs_lexer.specs.declared.tokens.Token.{Token}
use Rattle.pfs_lexer.specs.declared.tokens.TokenKind.{TokenKind}
use Rattle.pfs_lexer.specs.declared.tokens.TokenKind.TheVariants.{String, QuotedName, Number, Word, Operator}
use Rattle.pfs_lexer.specs.TextItems.{items_of}
use Rattle.pfs_digest.specs.Digest.{digest_text_of, text_of, tokens_of}
use Rattle.pfs_digest.specs.Keywords.{is_in_any_case, keyword_of, keyword_or_name, keywords, word_text}
use Rattle.pfs_digest.specs.TokenPieces.{piece_of, slice_of}
use Rattle.pfs_digest.specs.PieceBytes.{printed, spelled, token_text}
use Rattle.pfs_digest.specs.Reduction.{reduced}
use Rattle.pfs_digest.specs.declared.pieces.Piece.{Piece}
use Rattle.pfs_digest.specs.declared.pieces.Piece.TheVariants.{One, Run, Open, Close, Comma, Semicolon, Plain}
use Rattle.pfs_digest.specs.declared.pieces.Shape.TheVariants.{Value, Single, Several}

abbrev pub is_printable : ℕ → Bool
is_printable b = nat_le 32 b && nat_le b 126

module _ (test : ℕ → Bool) (printable : (b : ℕ) → is_printable b ≡ true → test b ≡ true) where
  abbrev Passes : ℕ → Type 0
  Passes b = test b ≡ true

  plain : (bytes : List ℕ) → list_all is_printable bytes ≡ true → All Passes bytes
  plain [] e = All-nil Passes
  plain (b ∷ bs) e =
      let h = and_parts (is_printable b) (list_all is_printable bs) e in
      All-cons Passes b bs (printable b h.0) (plain bs h.1)

  -- a keyword that is found
  found_plain : (f : List ℕ → Bool) (words : List (List ℕ)) → list_all (list_all is_printable) words ≡ true → IfSome (find f words) (λ word. All Passes word)
  found_plain f [] e = tt
  found_plain f (word ∷ words) e =
      let h = and_parts (list_all is_printable word) (list_all (list_all is_printable) words) e in
      at (f word) (plain word h.0) (found_plain f words h.1) where
        at : (b : Bool) → All Passes word → IfSome (find f words) (λ word. All Passes word) → IfSome (cond b (Some word) (find f words)) (λ word. All Passes word)
        at true own rest = own
        at false own rest = rest

  shown_plain : (word : List ℕ) (found : Option (List ℕ)) → All Passes word → IfSome found (λ keyword. All Passes keyword) → All Passes (keyword_or_name word found)
  shown_plain word None all h =
      All-append Passes (codes "`") (word ++ codes "`") (plain (codes "`") refl) (All-append Passes word (codes "`") all (plain (codes "`") refl))
  shown_plain word (Some keyword) all h = h

  word_plain : (word : List ℕ) → All Passes word → All Passes (word_text word)
  unfolding keyword_of
  word_plain word all =
      shown_plain word (find (λ keyword. is_in_any_case word keyword) keywords) all (found_plain (λ keyword. is_in_any_case word keyword) keywords refl)

  token_plain : (kind : TokenKind) (bytes : List ℕ) → All Passes bytes → All Passes (token_text kind bytes)
  token_plain String bytes all = all
  token_plain QuotedName bytes all = all
  token_plain Number bytes all = all
  token_plain Word bytes all = word_plain bytes all
  token_plain Operator bytes all = all

  slice_plain : (text : List ℕ) (token : Token) → All Passes text → All Passes (slice_of text token)
  slice_plain text token all = All-take Passes (token.end - token.start) (drop token.start text) (All-drop Passes token.start text all)

  printed_plain : (text : List ℕ) → All Passes text → (piece : Piece) → All Passes (printed text piece)
  unfolding printed
  printed_plain text all (One Value) = plain (codes "?") refl
  printed_plain text all (One Single) = plain (codes "(?)") refl
  printed_plain text all (One Several) = plain (codes "(...)") refl
  printed_plain text all (Run Value) = plain (codes "?, ...") refl
  printed_plain text all (Run Single) = plain (codes "(?) /* , ... */") refl
  printed_plain text all (Run Several) = plain (codes "(...) /* , ... */") refl
  printed_plain text all Open = plain (codes "(") refl
  printed_plain text all Close = plain (codes ")") refl
  printed_plain text all Comma = plain (codes ",") refl
  printed_plain text all Semicolon = plain (codes ";") refl
  printed_plain text all (Plain token) = token_plain token.kind (slice_of text token) (slice_plain text token all)

  join_plain : (parts : List (List ℕ)) → AllByRecursion (λ part. All Passes part) parts → All Passes (join_with_byte 32 parts)
  join_plain [] h = All-nil Passes
  join_plain (part ∷ []) h = h.0
  join_plain (part ∷ next ∷ parts) h =
      All-append Passes part (32 ∷ join_with_byte 32 (next ∷ parts)) h.0
      (All-cons Passes 32 (join_with_byte 32 (next ∷ parts)) (printable 32 refl) (join_plain (next ∷ parts) h.1))

  each_plain : (text : List ℕ) → All Passes text → (pieces : List Piece) → AllByRecursion (λ part. All Passes part) (map (λ piece. printed text piece) pieces)
  each_plain text all [] = tt
  each_plain text all (piece ∷ pieces) = (printed_plain text all piece, each_plain text all pieces)

  shown_is : (a b : List ℕ) (r : Result (List ℕ) LexFault) → r ≡ Ok a → r ≡ Ok b → a ≡ b
  shown_is a b r e f = cc

  text_plain : (text shown : List ℕ) (tokens : Result (List Token) LexFault) → All Passes text → text_of text tokens ≡ Ok shown → All Passes shown
  text_plain text shown (Ok tokens) all e =
      let pieces : List Piece = reduced (map (λ token. piece_of text token) tokens) in
      subst (λ bytes. All Passes bytes) (shown_is (spelled text pieces) shown (text_of text (Ok tokens)) refl e)
      (join_plain (map (λ piece. printed text piece) pieces) (each_plain text all pieces))
  text_plain text shown (Err fault) all e = absurd (cc)

  pub digest_plain : (text shown : List ℕ) → All Passes text → digest_text_of text ≡ Ok shown → All Passes shown
  unfolding digest_text_of
  digest_plain text shown all e = text_plain text shown (tokens_of (items_of text)) all e
