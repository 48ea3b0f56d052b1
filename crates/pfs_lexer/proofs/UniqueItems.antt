-- Whatever accounts for a text is what the lexer gives for it.
use Rattle.std.proofs.Common.{◌≡◌, ◌≢◌, ◌⊎◌, ℕ, zero, suc, ◌+◌, ◌-◌, ◌<◌, ◌≤◌, Bool, true, false, List, [], ◌∷◌, ◌++◌, length, take, drop, nat_eq, append_assoc, Option, None, Some, Result, Ok, Err, refl, ap, sym, ◌∙◌, subst, inl, inr, arith}
use Rattle.std.specs.Prelude.{◌==◌, ◌&&◌, not, nat_le, codes}
use Rattle.std.specs.List.{position_or_len, list_all, list_any, starts_with, concat}
use Rattle.std.specs.Char.{is_ascii_digit}
use Rattle.std.proofs.Math.Seq.{take-add}
use Rattle.std.proofs.lemmas.Bool.{cases_lt, cond-true, cond-false, and_parts, or_cases, or_parts, or_from, eqb-true, eq-eqb, ne_eqb, false≢true, leb-true}
use Rattle.std.proofs.lemmas.List.{take-append-drop, take_at, drop_at, append-nil, length-append}
use Rattle.pfs_lexer.specs.declared.tokens.TokenKind.{TokenKind}
use Rattle.pfs_lexer.specs.declared.tokens.TokenKind.TheVariants.{String, QuotedName, Number, Word, Operator}
use Rattle.pfs_lexer.specs.declared.tokens.Token.{Token}
use Rattle.pfs_lexer.specs.declared.tokens.LexFault.{LexFault}
use Rattle.pfs_lexer.specs.declared.tokens.LexFault.TheVariants as faults
use Rattle.pfs_lexer.specs.declared.fronts.Front.{Front}
use Rattle.pfs_lexer.specs.declared.fronts.Front.TheVariants as fronts
use Rattle.pfs_lexer.specs.Classes.{is_blank, is_word_start, is_word_byte}
use Rattle.pfs_lexer.specs.Comments.{comment_len, begins_line_comment}
use Rattle.pfs_lexer.specs.QuotePairs.{is_pair, more, quoted_len}
use Rattle.pfs_lexer.specs.Operators.{singles}
use Rattle.pfs_lexer.specs.Fronts.{closed, commented, token_of, front_of}
use Rattle.pfs_lexer.specs.TextItems.{token_at, placed, items_from}
use Rattle.pfs_lexer.specs.TokenGrammar.{IsBody, IsBetween, IsToken, begins_nothing}
use Rattle.pfs_lexer.specs.Accounts.{EndsLine, BeginsBlank, BeginsComment, BeginsWith, GoesOn, HasNoClose, AreBlanks, IsFault, IsLongest, IsOpen, Accounts, OneReading}
use Rattle.pfs_lexer.proofs.ItemSteps.{items-past, items-here, items-behind}
use Rattle.pfs_lexer.proofs.QuoteSteps.{quoted-pair, quoted-end, quoted-other, last-end, last-other, quoted-none, comment-close, comment-on, comment-none}
use Rattle.pfs_lexer.proofs.LongestTokens.{plain-single, doubled-pair}
use Rattle.pfs_lexer.proofs.FirstBytes.{kind_of, token-kind}
use Rattle.pfs_lexer.proofs.Accounts.{IsOneBlank, NoLonger, PlaceIs, place_is, dashes_begin}

-- a blank tells no kind
at_blank_byte : (b c : ℕ) → b ≡ c → kind_of c ≡ None → kind_of b ≡ None
at_blank_byte b c e none = ap kind_of e ∙ none

small_blank : (b : ℕ) → 9 ≤ b → b ≤ 13 → (b ≡ 9) ⊎ ((b ≡ 10) ⊎ ((b ≡ 11) ⊎ ((b ≡ 12) ⊎ (b ≡ 13))))
small_blank b low high = grind arith

blank_kind : (b : ℕ) → is_blank b ≡ true → kind_of b ≡ None
blank_kind b e = elim (or_cases (nat_le 9 b && nat_le b 13) (b == 32) e) [
  | inl inside ↦
      let parts = and_parts (nat_le 9 b) (nat_le b 13) inside in
      elim (small_blank b (leb-true 9 b parts.0) (leb-true b 13 parts.1)) [
        | inl tab ↦ at_blank_byte b 9 tab refl
        | inr others ↦ elim others [
          | inl feed ↦ at_blank_byte b 10 feed refl
          | inr others ↦ elim others [
            | inl vertical ↦ at_blank_byte b 11 vertical refl
            | inr others ↦ elim others [ inl form ↦ at_blank_byte b 12 form refl | inr return ↦ at_blank_byte b 13 return refl ]
          ]
        ]
      ]
  | inr space ↦ at_blank_byte b 32 (eqb-true b 32 space) refl
]

-- a byte that begins nothing tells no kind
nothing_kind : (b : ℕ) → begins_nothing b ≡ true → kind_of b ≡ None
nothing_kind b e =
    let any = not-true _ e in
    let blank = or_parts (is_blank b) _ any in
    let hash = or_parts (b == 35) _ blank.1 in
    let quote = or_parts (b == 39) _ hash.1 in
    let double = or_parts (b == 34) _ quote.1 in
    let back = or_parts (b == 96) _ double.1 in
    let word = or_parts (is_word_byte b) (list_any (λ operator. operator == b) singles) back.1 in
    let byte = or_parts (is_word_start b) (is_ascii_digit b) word.0 in
    cond-false _ _ _ (or_from (b == 39) (b == 34) quote.0 double.0) ∙ cond-false _ _ _ back.0 ∙ cond-false _ _ _ byte.1 ∙ cond-false _ _ _ byte.0 ∙ cond-false _ _ _ word.1
  where
    not-true : (a : Bool) → not a ≡ true → a ≡ false
    not-true true e = absurd (false≢true e)
    not-true false e = refl

-- a byte that begins nothing is no blank and no `#`
unblank : (b : ℕ) → begins_nothing b ≡ true → is_blank b ≡ false
unblank b e = (or_parts (is_blank b) _ (negated _ e)).0
  where
    negated : (a : Bool) → not a ≡ true → a ≡ false
    negated true e = absurd (false≢true e)
    negated false e = refl

unhash : (b : ℕ) → begins_nothing b ≡ true → (b == 35) ≡ false
unhash b e = (or_parts (b == 35) _ (or_parts (is_blank b) _ (negated _ e)).1).0
  where
    negated : (a : Bool) → not a ≡ true → a ≡ false
    negated true e = absurd (false≢true e)
    negated false e = refl

no_kind : (b : ℕ) (kind : TokenKind) → kind_of b ≡ None → kind_of b ≡ Some kind → ⊥
no_kind b kind none some = let clash : None ≡ Some kind = sym none ∙ some in cc

-- what stands where a quote stands first
front_quote : (xs : List ℕ) → front_of (39 ∷ xs) ≡ closed String (quoted_len 39 xs)
unfolding front_of token_of
front_quote xs = refl

front_double_quote : (xs : List ℕ) → front_of (34 ∷ xs) ≡ closed String (quoted_len 34 xs)
unfolding front_of token_of
front_double_quote xs = refl

front_backquote : (xs : List ℕ) → front_of (96 ∷ xs) ≡ closed QuotedName (quoted_len 96 xs)
unfolding front_of token_of
front_backquote xs = refl

-- what stands where a comment begins, and a blank
front_comment : (xs : List ℕ) → front_of (47 ∷ 42 ∷ xs) ≡ commented (comment_len xs)
unfolding front_of
front_comment xs = refl

front_hash : (xs : List ℕ) → front_of (35 ∷ xs) ≡ fronts.Blank (1 + position_or_len (λ b. b == 10) xs)
unfolding front_of
front_hash xs = refl

front_dashes : (xs : List ℕ) → BeginsBlank xs → front_of (45 ∷ 45 ∷ xs) ≡ fronts.Blank (1 + position_or_len (λ b. b == 10) (45 ∷ xs))
unfolding front_of
front_dashes xs blank = cond-true (begins_line_comment (45 ∷ 45 ∷ xs)) _ _ (dashes_begin xs blank)

front_blank_byte : (b : ℕ) (xs : List ℕ) → is_blank b ≡ true → front_of (b ∷ xs) ≡ fronts.Blank 1
unfolding front_of
front_blank_byte b xs blank = cond-true (is_blank b) _ _ blank

-- the quotes' body up to its closing quote
more_is : (n k m : ℕ) (o : Option ℕ) → o ≡ Some k → n + k ≡ m → more n o ≡ Some m
more_is n k m o e sum = ap (more n) e ∙ ap Some sum

closes_here : (q : ℕ) (behind : List ℕ) → ¬ BeginsWith q behind → quoted_len q (q ∷ behind) ≡ Some 1
closes_here q [] stops = last-end q q (eq-eqb q q refl)
closes_here q (c ∷ behind) stops =
    let single : is_pair q q c ≡ false = cond-true (q == q) (c == q) (not (q == 96) && q == 92) (eq-eqb q q refl) ∙ ne_eqb c q stops in
    quoted-end q q c behind single (eq-eqb q q refl)

body_closes : (q : ℕ) (body behind : List ℕ) → q ≢ 92 → IsBody q body → ¬ BeginsWith q behind → quoted_len q (body ++ q ∷ behind) ≡ Some (length body + 1)
body_closes q [] behind no_slash is stops = closes_here q behind stops ∙ ap Some (omega arith)
body_closes q (b ∷ []) behind no_slash is stops =
    quoted-other q b q behind (plain-single q b q is) (ne_eqb b q is.0) ∙ more_is 1 1 (length (b ∷ []) + 1) (quoted_len q (q ∷ behind)) (closes_here q behind stops) (omega arith)
body_closes q (b ∷ c ∷ body) behind no_slash is stops = elim is [
  | inl plain ↦
      quoted-other q b c (body ++ q ∷ behind) (plain-single q b c plain.0) (ne_eqb b q plain.0.0)
      ∙ more_is 1 (length (c ∷ body) + 1) (length (b ∷ c ∷ body) + 1) (quoted_len q (c ∷ (body ++ q ∷ behind))) (body_closes q (c ∷ body) behind no_slash plain.1 stops) (omega arith)
  | inr pair ↦
      quoted-pair q b c (body ++ q ∷ behind) (doubled-pair q b c no_slash pair.0)
      ∙ more_is 2 (length body + 1) (length (b ∷ c ∷ body) + 1) (quoted_len q (body ++ q ∷ behind)) (body_closes q body behind no_slash pair.1 stops) (omega arith)
]

-- a body that no quote closes, and one with a last lone `\`
body_opens : (q : ℕ) (body : List ℕ) → q ≢ 92 → IsBody q body → quoted_len q body ≡ None
body_opens q [] no_slash is = quoted-none q
body_opens q (b ∷ []) no_slash is = last-other q b (ne_eqb b q is.0) ∙ ap (more 1) (quoted-none q)
body_opens q (b ∷ c ∷ body) no_slash is = elim is [
  | inl plain ↦ quoted-other q b c body (plain-single q b c plain.0) (ne_eqb b q plain.0.0) ∙ ap (more 1) (body_opens q (c ∷ body) no_slash plain.1)
  | inr pair ↦ quoted-pair q b c body (doubled-pair q b c no_slash pair.0) ∙ ap (more 2) (body_opens q body no_slash pair.1)
]

slash_opens : (q : ℕ) (body : List ℕ) → q ≢ 92 → IsBody q body → quoted_len q (body ++ 92 ∷ []) ≡ None
slash_opens q [] no_slash is = last-other q 92 (ne_eqb 92 q (λ e. no_slash (sym e))) ∙ ap (more 1) (quoted-none q)
slash_opens q (b ∷ []) no_slash is =
    quoted-other q b 92 [] (plain-single q b 92 is) (ne_eqb b q is.0) ∙ ap (more 1) (slash_opens q [] no_slash tt)
slash_opens q (b ∷ c ∷ body) no_slash is = elim is [
  | inl plain ↦ quoted-other q b c (body ++ 92 ∷ []) (plain-single q b c plain.0) (ne_eqb b q plain.0.0) ∙ ap (more 1) (slash_opens q (c ∷ body) no_slash plain.1)
  | inr pair ↦ quoted-pair q b c (body ++ 92 ∷ []) (doubled-pair q b c no_slash pair.0) ∙ ap (more 2) (slash_opens q body no_slash pair.1)
]

-- comments
comment_ends : (body behind : List ℕ) → HasNoClose body (codes "*/" ++ behind) → comment_len (body ++ (codes "*/" ++ behind)) ≡ Some (length body + 2)
comment_ends [] behind none = comment-close 42 (47 ∷ behind) refl ∙ ap Some (omega arith)
comment_ends (b ∷ body) behind none =
    comment-on b (body ++ (codes "*/" ++ behind)) none.0
    ∙ more_is 1 (length body + 2) (length (b ∷ body) + 2) (comment_len (body ++ (codes "*/" ++ behind))) (comment_ends body behind none.1) (omega arith)

comment_never : (rest : List ℕ) → HasNoClose rest [] → comment_len rest ≡ None
comment_never [] none = comment-none
comment_never (b ∷ rest) none =
    comment-on b rest (subst (λ (xs : List ℕ). starts_with nat_eq (b ∷ xs) (codes "*/") ≡ false) (append-nil rest) none.0) ∙ ap (more 1) (comment_never rest none.1)

line_len : (line behind : List ℕ) → list_all (λ b. not (b == 10)) line ≡ true → EndsLine behind → position_or_len (λ b. b == 10) (line ++ behind) ≡ length line
line_len [] [] all ends = refl
line_len [] (b ∷ behind) all ends = cond-false (not (b == 10)) _ 0 (ap not (eq-eqb b 10 ends))
line_len (b ∷ line) behind all ends =
    let parts = and_parts (not (b == 10)) (list_all (λ b. not (b == 10)) line) all in
    let rest = line_len line behind parts.1 ends in
    cond-true (not (b == 10)) (1 + position_or_len (λ b. b == 10) (line ++ behind)) 0 parts.0 ∙ (let e : 1 + position_or_len (λ b. b == 10) (line ++ behind) ≡ length (b ∷ line) = omega (arith, rest) in e)

-- one blank is what stands at its front
front_one_blank : (piece behind : List ℕ) → IsOneBlank piece behind → (0 < length piece) × (front_of (piece ++ behind) ≡ fronts.Blank (length piece))
front_one_blank piece behind (inl (b, is, blank)) = subst (λ (p : List ℕ). (0 < length p) × (front_of (p ++ behind) ≡ fronts.Blank (length p))) (sym is) (omega arith, front_blank_byte b behind blank)
front_one_blank piece behind (inr (inl (line, inl hash, all, ends))) =
    subst (λ (p : List ℕ). (0 < length p) × (front_of (p ++ behind) ≡ fronts.Blank (length p))) (sym hash) (
      omega arith,
      front_hash (line ++ behind) ∙ ap (λ (n : ℕ). fronts.Blank n) (let e : 1 + position_or_len (λ b. b == 10) (line ++ behind) ≡ length (35 ∷ line) = omega (arith, line_len line behind all ends) in e),
    )
front_one_blank piece behind (inr (inl (line, inr (dashes, blank), all, ends))) =
    subst (λ (p : List ℕ). (0 < length p) × (front_of (p ++ behind) ≡ fronts.Blank (length p))) (sym dashes) (
      omega arith,
      front_dashes (line ++ behind) blank ∙ ap (λ (n : ℕ). fronts.Blank n) (let e : 1 + position_or_len (λ b. b == 10) (45 ∷ (line ++ behind)) ≡ length (45 ∷ 45 ∷ line) = omega (arith, line_len (45 ∷ line) behind all ends) in e),
    )
front_one_blank piece behind (inr (inr (body, is, none))) =
    subst (λ (p : List ℕ). (0 < length p) × (front_of (p ++ behind) ≡ fronts.Blank (length p))) (sym is) (
      omega arith,
      front_comment ((body ++ codes "*/") ++ behind) ∙ ap (λ (xs : List ℕ). commented (comment_len xs)) (append_assoc body (codes "*/") behind) ∙ ap commented (comment_ends body behind none)
          ∙ ap (λ (n : ℕ). fronts.Blank n) (let e : 2 + (length body + 2) ≡ length (47 ∷ 42 ∷ (body ++ codes "*/")) = omega (arith, length-append body (codes "*/")) in e),
    )

-- the items behind a blank
behind_blank : (place : ℕ) (bytes : List ℕ) (len : ℕ) → 0 < len → len ≤ length bytes → front_of bytes ≡ fronts.Blank len → items_from place 0 bytes ≡ items_from (place + len) 0 (drop len bytes)
behind_blank place [] len some fits e = absurd (omega arith)
behind_blank place (b ∷ bytes) len some fits e =
    items-here place b bytes ∙ ap (λ (f : Front). placed place f (λ len. items_from (place + 1) (len - 1) bytes)) e ∙ items-behind place len b bytes some

behind_blanks : (place : ℕ) (blanks : List (List ℕ)) (behind : List ℕ) → AreBlanks blanks behind → items_from place 0 (concat blanks ++ behind) ≡ items_from (place + length (concat blanks)) 0 behind
behind_blanks place [] behind are = ap (λ (n : ℕ). items_from n 0 behind) (let e : place ≡ place + 0 = omega arith in e)
behind_blanks place (piece ∷ blanks) behind are =
    let rest = concat blanks ++ behind in
    let front = front_one_blank piece rest are.0 in
    let split : concat (piece ∷ blanks) ++ behind ≡ piece ++ rest = append_assoc piece (concat blanks) behind in
    ap (items_from place 0) split
    ∙ behind_blank place (piece ++ rest) (length piece) front.0 (omega (arith, length-append piece rest)) front.1
    ∙ ap (items_from (place + length piece) 0) (drop_at piece rest (length piece) refl)
    ∙ behind_blanks (place + length piece) blanks behind are.1
    ∙ ap (λ (n : ℕ). items_from n 0 behind) (let e : (place + length piece) + length (concat blanks) ≡ place + length (concat (piece ∷ blanks)) = omega (arith, length-append piece (concat blanks)) in e)

-- a token between quotes
between_front : (kind : TokenKind) (q : ℕ) (body behind : List ℕ) → ((xs : List ℕ) → front_of (q ∷ xs) ≡ closed kind (quoted_len q xs)) → q ≢ 92 → IsBetween q body → ¬ BeginsWith q behind
    → front_of (body ++ behind) ≡ fronts.Piece kind (length body)
between_front kind q body behind front no_slash (inner, is, are) stops =
    subst (λ (b : List ℕ). front_of (b ++ behind) ≡ fronts.Piece kind (length b)) (sym is) (
    front ((inner ++ q ∷ []) ++ behind)
    ∙ ap (λ (xs : List ℕ). closed kind (quoted_len q xs)) (append_assoc inner (q ∷ []) behind)
    ∙ ap (closed kind) (body_closes q inner behind no_slash are stops)
    ∙ ap (λ (n : ℕ). fronts.Piece kind n) (let e : 1 + (length inner + 1) ≡ length (q ∷ (inner ++ q ∷ [])) = omega (arith, length-append inner (q ∷ [])) in e)
    )

-- a quote that stands first tells its kind
quote_kind : (b : ℕ) → (b ≡ 39) ⊎ ((b ≡ 34) ⊎ (b ≡ 96)) → (kind_of b ≡ Some String) ⊎ (kind_of b ≡ Some QuotedName)
quote_kind b (inl single) = inl (ap kind_of single)
quote_kind b (inr (inl double)) = inl (ap kind_of double)
quote_kind b (inr (inr back)) = inr (ap kind_of back)

-- neither a string nor a quoted name
abbrev IsUnquoted : TokenKind → Type 0
IsUnquoted kind = (kind ≢ String) × (kind ≢ QuotedName)

no_quote : (b : ℕ) (kind : TokenKind) → IsUnquoted kind → kind_of b ≡ Some kind → (b ≡ 39) ⊎ ((b ≡ 34) ⊎ (b ≡ 96)) → ⊥
no_quote b kind unquoted is quote = elim (quote_kind b quote) [
  | inl string ↦ let same : Some kind ≡ Some String = sym is ∙ string in unquoted.0 (cc same)
  | inr name ↦ let same : Some kind ≡ Some QuotedName = sym is ∙ name in unquoted.1 (cc same)
]

first_of_open : (q b : ℕ) (xs : List ℕ) → IsOpen q (b ∷ xs) → b ≡ q
first_of_open q b xs (body, is, inl e) = cc e
first_of_open q b xs (body, is, inr (other, e)) = cc e

-- a blank at the front of a token would be a comment or a blank byte
no_blank : (b : ℕ) (xs : List ℕ) (len : ℕ) (kind : TokenKind) → 0 < len → kind_of b ≡ Some kind → ¬ BeginsComment (b ∷ xs) → ¬ IsOneBlank (take len (b ∷ xs)) (drop len (b ∷ xs))
no_blank b xs zero kind some is none blank = absurd (omega arith)
no_blank b xs (suc len) kind some is none (inl (c, e, blank)) =
    let same : b ≡ c = cc e in
    no_kind b kind (ap kind_of same ∙ blank_kind c blank) is
no_blank b xs (suc len) kind some is none (inr (inl (line, inl hash, all, ends))) =
    none (line ++ drop len xs, inl (sym (take-append-drop (suc len) (b ∷ xs)) ∙ ap (λ (p : List ℕ). p ++ drop len xs) hash))
no_blank b xs (suc len) kind some is none (inr (inl (line, inr (dashes, blank), all, ends))) =
    none (line ++ drop len xs, inr (inl (sym (take-append-drop (suc len) (b ∷ xs)) ∙ ap (λ (p : List ℕ). p ++ drop len xs) dashes, blank)))
no_blank b xs (suc len) kind some is none (inr (inr (body, e, closes))) =
    none ((body ++ codes "*/") ++ drop len xs, inr (inr (sym (take-append-drop (suc len) (b ∷ xs)) ∙ ap (λ (p : List ℕ). p ++ drop len xs) e)))

-- the longest token is the one that stands there
one_length : (bytes : List ℕ) (kind other : TokenKind) (body behind : List ℕ) (len : ℕ) → bytes ≡ body ++ behind → len ≤ length bytes → 0 < len
    → IsToken kind body → IsLongest body behind → IsToken other (take len bytes) → NoLonger bytes len → len ≡ length body
one_length bytes kind other body behind len split fits some is longest token none = by (cases_lt len (length body)) (cases_lt (length body) len)
  where
    whole : take (length body) bytes ≡ body
    whole = ap (take (length body)) split ∙ take_at body behind (length body) refl

    all : length bytes ≡ length body + length behind
    all = ap length split ∙ length-append body behind

    longer : length body < len → ⊥
    longer less =
        let n = len - length body in
        let sum : length body + n ≡ len = omega arith in
        let parts : take len bytes ≡ body ++ take n behind =
        ap (λ (m : ℕ). take m bytes) (sym sum) ∙ take-add (length body) n bytes
        ∙ ap (λ (p : List ℕ). p ++ take n (drop (length body) bytes)) whole
        ∙ ap (λ (p : List ℕ). body ++ take n p) (ap (drop (length body)) split ∙ drop_at body behind (length body) refl) in
        longest other n (omega arith) (omega (arith, all)) (subst (IsToken other) parts token)

    shorter : len < length body → ⊥
    shorter less = none kind (length body) less (omega (arith, all)) (subst (IsToken kind) (sym whole) is)

    by : (len < length body) ⊎ (length body ≤ len) → (length body < len) ⊎ (len ≤ length body) → len ≡ length body
    by (inl less) _ = absurd (shorter less)
    by (inr _) (inl less) = absurd (longer less)
    by (inr at_least) (inr at_most) = omega arith

same_kind : (b : ℕ) (xs : List ℕ) (kind other : TokenKind) (len : ℕ) → 0 < len → kind_of b ≡ Some kind → IsToken other (take len (b ∷ xs)) → other ≡ kind
same_kind b xs kind other zero some is token = absurd (omega arith)
same_kind b xs kind other (suc len) some is token =
    let told : Some other ≡ Some kind = sym (token-kind other b (take len xs) token) ∙ is in cc told

-- a token that is no string and no quoted name
front_by : (b : ℕ) (tail behind : List ℕ) (kind : TokenKind) (front : Front) → PlaceIs (b ∷ (tail ++ behind)) front → IsUnquoted kind → IsToken kind (b ∷ tail) → IsLongest (b ∷ tail) behind → ¬ BeginsComment (b ∷ (tail ++ behind))
    → front ≡ fronts.Piece kind (length (b ∷ tail))
front_by b tail behind kind (fronts.Blank len) is unquoted token longest none = absurd (no_blank b (tail ++ behind) len kind is.0 (token-kind kind b tail token) none is.2)
front_by b tail behind kind (fronts.Piece other len) is unquoted token longest none =
    let kinds = same_kind b (tail ++ behind) kind other len is.0.0 (token-kind kind b tail token) is.0.2 in
    let lengths = one_length (b ∷ (tail ++ behind)) kind other (b ∷ tail) behind len refl is.0.1 is.0.0 token longest is.0.2 is.0.3 in
    ap (λ (k : TokenKind). fronts.Piece k len) kinds ∙ ap (λ (n : ℕ). fronts.Piece kind n) lengths
front_by b tail behind kind fronts.OpenString is unquoted token longest none =
    absurd (no_quote b kind unquoted (token-kind kind b tail token) (quotes is))
  where
    quotes : IsOpen 39 (b ∷ (tail ++ behind)) ⊎ (IsOpen 34 (b ∷ (tail ++ behind)) ⊎ IsOpen 96 (b ∷ (tail ++ behind))) → (b ≡ 39) ⊎ ((b ≡ 34) ⊎ (b ≡ 96))
    quotes (inl single) = inl (first_of_open 39 b (tail ++ behind) single)
    quotes (inr (inl double)) = inr (inl (first_of_open 34 b (tail ++ behind) double))
    quotes (inr (inr back)) = inr (inr (first_of_open 96 b (tail ++ behind) back))
front_by b tail behind kind fronts.OpenComment (rest, e, never) unquoted token longest none = absurd (none (rest, inr (inr e)))
front_by b tail behind kind fronts.BadByte (c, rest, e, nothing) unquoted token longest none =
    let same : b ≡ c = cc e in
    absurd (no_kind b kind (ap kind_of same ∙ nothing_kind c nothing) (token-kind kind b tail token))

some_byte : (kind : TokenKind) → IsUnquoted kind → ¬ IsToken kind []
some_byte String unquoted is = unquoted.0 refl
some_byte QuotedName unquoted is = unquoted.1 refl
some_byte Number unquoted (inl (whole, fraction, exponent, e, digits, is_fraction, is_exponent)) = absurd (omega (arith, digits.0, ap length e, length-append whole (fraction ++ exponent)))
some_byte Number unquoted (inr (digits, e, are)) = cc e
some_byte Word unquoted is = is
some_byte Operator unquoted is = false≢true is

front_of_unquoted : (body behind : List ℕ) (kind : TokenKind) → IsUnquoted kind → IsToken kind body → IsLongest body behind → ¬ BeginsComment (body ++ behind) → front_of (body ++ behind) ≡ fronts.Piece kind (length body)
front_of_unquoted [] behind kind unquoted is longest none = absurd (some_byte kind unquoted is)
front_of_unquoted (b ∷ tail) behind kind unquoted is longest none = front_by b tail behind kind (front_of (b ∷ (tail ++ behind))) (place_is b (tail ++ behind)) unquoted is longest none

-- a token stands at the front
front_of_token : (kind : TokenKind) (body behind : List ℕ) → IsToken kind body → IsLongest body behind → ¬ BeginsComment (body ++ behind) → ¬ GoesOn kind body behind → front_of (body ++ behind) ≡ fronts.Piece kind (length body)
front_of_token String body behind (inl is) longest none ends = between_front String 39 body behind front_quote (λ e. absurd (omega (arith, e))) is (λ again. ends (inl (is, again)))
front_of_token String body behind (inr is) longest none ends = between_front String 34 body behind front_double_quote (λ e. absurd (omega (arith, e))) is (λ again. ends (inr (is, again)))
front_of_token QuotedName body behind is longest none ends = between_front QuotedName 96 body behind front_backquote (λ e. absurd (omega (arith, e))) is (λ again. ends (is, again))
front_of_token Number body behind is longest none ends = front_of_unquoted body behind Number ((λ e. cc e), (λ e. cc e)) is longest none
front_of_token Word body behind is longest none ends = front_of_unquoted body behind Word ((λ e. cc e), (λ e. cc e)) is longest none
front_of_token Operator body behind is longest none ends = front_of_unquoted body behind Operator ((λ e. cc e), (λ e. cc e)) is longest none

-- a fault at the front, and nothing behind it
fault_here : (place b : ℕ) (bytes : List ℕ) (front : Front) (fault : LexFault) → front_of (b ∷ bytes) ≡ front → ((behind : ℕ → List (Result Token LexFault)) → placed place front behind ≡ Err fault ∷ []) → items_from place 0 (b ∷ bytes) ≡ Err fault ∷ []
fault_here place b bytes front fault e is =
    items-here place b bytes ∙ ap (λ (f : Front). placed place f (λ len. items_from (place + 1) (len - 1) bytes)) e ∙ is (λ len. items_from (place + 1) (len - 1) bytes)

open_string : (place q : ℕ) (kind : TokenKind) (bytes : List ℕ) → ((xs : List ℕ) → front_of (q ∷ xs) ≡ closed kind (quoted_len q xs)) → q ≢ 92 → IsOpen q bytes → items_from place 0 bytes ≡ Err (faults.OpenString place) ∷ []
open_string place q kind bytes front no_slash (body, is, inl e) =
    ap (items_from place 0) e ∙ fault_here place q body fronts.OpenString (faults.OpenString place) (front body ∙ ap (closed kind) (body_opens q body no_slash is)) (λ _. refl)
open_string place q kind bytes front no_slash (body, is, inr (other, e)) =
    ap (items_from place 0) e ∙ fault_here place q (body ++ 92 ∷ []) fronts.OpenString (faults.OpenString place) (front (body ++ 92 ∷ []) ∙ ap (closed kind) (slash_opens q body no_slash is)) (λ _. refl)

bad_front : (b : ℕ) (xs : List ℕ) (front : Front) → begins_nothing b ≡ true → PlaceIs (b ∷ xs) front → front ≡ fronts.BadByte
bad_front b xs (fronts.Blank len) nothing is = absurd (by_blank len is.0 is.2)
  where
    none_of : kind_of b ≡ None
    none_of = nothing_kind b nothing

    by_blank : (len : ℕ) → 0 < len → ¬ IsOneBlank (take len (b ∷ xs)) (drop len (b ∷ xs))
    by_blank zero some blank = absurd (omega arith)
    by_blank (suc len) some (inl (c, e, blank)) =
        let same : c ≡ b = cc e in
        false≢true (sym (unblank b nothing) ∙ (ap is_blank (sym same) ∙ blank))
    by_blank (suc len) some (inr (inl (line, inl hash, all, ends))) =
        let same : b ≡ 35 = cc hash in
        false≢true (sym (unhash b nothing) ∙ eq-eqb b 35 same)
    by_blank (suc len) some (inr (inl (line, inr (dashes, blank), all, ends))) =
        let same : b ≡ 45 = cc dashes in
        no_kind b Operator none_of (ap kind_of same)
    by_blank (suc len) some (inr (inr (body, e, closes))) =
        let same : b ≡ 47 = cc e in
        no_kind b Operator none_of (ap kind_of same)
bad_front b xs (fronts.Piece kind len) nothing is = absurd (by_token len is.0.0 is.0.2)
  where
    by_token : (len : ℕ) → 0 < len → ¬ IsToken kind (take len (b ∷ xs))
    by_token zero some token = absurd (omega arith)
    by_token (suc len) some token = no_kind b kind (nothing_kind b nothing) (token-kind kind b (take len xs) token)
bad_front b xs fronts.OpenString nothing is = absurd (quotes is)
  where
    none_of : kind_of b ≡ None
    none_of = nothing_kind b nothing

    quotes : IsOpen 39 (b ∷ xs) ⊎ (IsOpen 34 (b ∷ xs) ⊎ IsOpen 96 (b ∷ xs)) → ⊥
    quotes (inl single) = no_kind b String none_of (ap kind_of (first_of_open 39 b xs single))
    quotes (inr (inl double)) = no_kind b String none_of (ap kind_of (first_of_open 34 b xs double))
    quotes (inr (inr back)) = no_kind b QuotedName none_of (ap kind_of (first_of_open 96 b xs back))
bad_front b xs fronts.OpenComment nothing (rest, e, never) =
    let same : b ≡ 47 = cc e in
    absurd (no_kind b Operator (nothing_kind b nothing) (ap kind_of same))
bad_front b xs fronts.BadByte nothing is = refl

fault_is : (fault : LexFault) (place : ℕ) (bytes : List ℕ) → IsFault fault place bytes → items_from place 0 bytes ≡ Err fault ∷ []
fault_is (faults.OpenString at) place bytes (same, inl single) = open_string place 39 String bytes front_quote (λ e. absurd (omega (arith, e))) single ∙ ap (λ (n : ℕ). Err (faults.OpenString n) ∷ []) (sym same)
fault_is (faults.OpenString at) place bytes (same, inr (inl double)) = open_string place 34 String bytes front_double_quote (λ e. absurd (omega (arith, e))) double ∙ ap (λ (n : ℕ). Err (faults.OpenString n) ∷ []) (sym same)
fault_is (faults.OpenString at) place bytes (same, inr (inr back)) = open_string place 96 QuotedName bytes front_backquote (λ e. absurd (omega (arith, e))) back ∙ ap (λ (n : ℕ). Err (faults.OpenString n) ∷ []) (sym same)
fault_is (faults.OpenComment at) place bytes (same, rest, e, never) =
    ap (items_from place 0) e ∙ fault_here place 47 (42 ∷ rest) fronts.OpenComment (faults.OpenComment place) (front_comment rest ∙ ap commented (comment_never rest never)) (λ _. refl)
    ∙ ap (λ (n : ℕ). Err (faults.OpenComment n) ∷ []) (sym same)
fault_is (faults.BadByte at) place bytes (same, b, rest, e, nothing) =
    ap (items_from place 0) e ∙ fault_here place b rest fronts.BadByte (faults.BadByte place) (bad_front b rest (front_of (b ∷ rest)) nothing (place_is b rest)) (λ _. refl)
    ∙ ap (λ (n : ℕ). Err (faults.BadByte n) ∷ []) (sym same)

-- the items behind a token
behind_token : (place : ℕ) (bytes behind : List ℕ) (kind : TokenKind) (len : ℕ) → 0 < len → len ≤ length bytes → drop len bytes ≡ behind → front_of bytes ≡ fronts.Piece kind len → items_from place 0 bytes ≡ Ok (token_at kind place len) ∷ items_from (place + len) 0 behind
behind_token place [] behind kind len some fits rest e = absurd (omega arith)
behind_token place (b ∷ bytes) behind kind len some fits rest e =
    items-here place b bytes ∙ ap (λ (f : Front). placed place f (λ len. items_from (place + 1) (len - 1) bytes)) e
    ∙ ap (λ (items : List (Result Token LexFault)). Ok (token_at kind place len) ∷ items) (items-behind place len b bytes some ∙ ap (items_from (place + len) 0) rest)

token_some : (kind : TokenKind) (body : List ℕ) → IsToken kind body → 0 < length body
token_some kind (b ∷ body) is = omega arith
token_some String [] (inl (inner, e, are)) = cc e
token_some String [] (inr (inner, e, are)) = cc e
token_some QuotedName [] (inner, e, are) = cc e
token_some Number [] is = absurd (some_byte Number ((λ e. cc e), (λ e. cc e)) is)
token_some Word [] is = absurd is
token_some Operator [] is = absurd (false≢true is)

read : (items : List (Result Token LexFault)) (place : ℕ) (bytes : List ℕ) → Accounts place bytes items → items_from place 0 bytes ≡ items
read [] place bytes (blanks, e, are) =
    ap (items_from place 0) (e ∙ sym (append-nil (concat blanks))) ∙ behind_blanks place blanks [] are ∙ items-past (place + length (concat blanks))
read (Ok token ∷ items) place bytes (blanks, body, behind, e, are, starts, ends, is, longest, none, stops, rest) =
    let start = place + length (concat blanks) in
    let front = front_of_token token.kind body behind is longest none stops in
    let some = token_some token.kind body is in
    ap (items_from place 0) e ∙ behind_blanks place blanks (body ++ behind) are
    ∙ behind_token start (body ++ behind) behind token.kind (length body) some (omega (arith, length-append body behind)) (drop_at body behind (length body) refl) front
    ∙ ap (λ (t : Token). Ok t ∷ items_from (start + length body) 0 behind) (same_token token start (length body) (sym starts) ends)
    ∙ ap (λ (n : ℕ). Ok token ∷ items_from n 0 behind) (let at : start + length body ≡ token.end = omega (arith, starts, ends) in at)
    ∙ ap (λ (more : List (Result Token LexFault)). Ok token ∷ more) (read items token.end behind rest)
  where
    same_token : (token : Token) (start len : ℕ) → start ≡ token.start → token.end ≡ token.start + len → token_at token.kind start len ≡ token
    same_token token start len at ends =
        ap (λ (n : ℕ). token_at token.kind n len) at ∙ ap (λ (n : ℕ). record { kind = token.kind; start = token.start; end = n }) (sym ends)
read (Err fault ∷ items) place bytes (blanks, bad, e, are, is, none) =
    ap (items_from place 0) e ∙ behind_blanks place blanks bad are ∙ fault_is fault (place + length (concat blanks)) bad is
    ∙ ap (λ (more : List (Result Token LexFault)). Err fault ∷ more) (sym none)

pub one_reading : OneReading
one_reading text items accounts = sym (read items 0 text accounts)
