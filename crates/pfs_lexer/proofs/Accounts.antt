-- Each byte of a text stands in a blank, in a token or behind a fault.
use Rattle.std.proofs.Common.{◌≡◌, ◌≢◌, ◌⊎◌, ℕ, zero, suc, ◌+◌, ◌-◌, ◌<◌, ◌≤◌, true, false, List, [], ◌∷◌, ◌++◌, length, take, drop, nat_eq, append_assoc, Option, None, Some, Result, Ok, Err, refl, ap, sym, ◌∙◌, subst, inl, inr, arith, lit<}
use Rattle.std.specs.Prelude.{◌==◌, ◌&&◌, ◌||◌, not, nat_lt, codes}
use Rattle.std.specs.List.{prefix_len, position_or_len, list_any, starts_with, concat}
use Rattle.std.specs.Char.{is_ascii_digit}
use Rattle.std.proofs.Math.Seq.{take-add}
use Rattle.std.proofs.lemmas.Bool.{cases_Bool, cond_both, and_parts, or_cases, or_parts, or_from, or_right, false≢true, not-false, not_from_false, eqb-true, ltb-true, ltb-false}
use Rattle.std.proofs.lemmas.List.{length-take-le, take-append-drop, take_at, drop_at, append-nil, length-append, length-drop}
use Rattle.std.proofs.lemmas.List.Sums.{prefix_len-le-length}
use Rattle.std.proofs.lemmas.Slice.Eq.{starts_is}
use Rattle.std.proofs.lemmas.Bool.Decides.{Decides-eqb}
use Rattle.pfs_lexer.specs.declared.tokens.TokenKind.{TokenKind}
use Rattle.pfs_lexer.specs.declared.tokens.TokenKind.TheVariants.{String, QuotedName, Number, Word, Operator}
use Rattle.pfs_lexer.specs.declared.tokens.Token.{Token}
use Rattle.pfs_lexer.specs.declared.tokens.LexFault.{LexFault}
use Rattle.pfs_lexer.specs.declared.fronts.Front.{Front}
use Rattle.pfs_lexer.specs.declared.fronts.Front.TheVariants as fronts
use Rattle.pfs_lexer.specs.Classes.{byte_at, is_blank, is_word_start, is_word_byte}
use Rattle.pfs_lexer.specs.Comments.{begins_line_comment, begins_comment, comment_len}
use Rattle.pfs_lexer.specs.QuotePairs.{more, quoted_len}
use Rattle.pfs_lexer.specs.Numbers.{number_len}
use Rattle.pfs_lexer.specs.Operators.{singles, operator_len}
use Rattle.pfs_lexer.specs.Fronts.{closed, commented, token_of, front_of}
use Rattle.pfs_lexer.specs.TextItems.{placed, items_from, items_of}
use Rattle.pfs_lexer.specs.TokenGrammar.{IsBetween, IsToken, begins_nothing}
use Rattle.pfs_lexer.specs.Accounts.{EndsLine, BeginsBlank, BeginsComment, BeginsWith, GoesOn, HasNoClose, IsLineComment, IsComment, IsOpen, IsFault, Accounts}
use Rattle.pfs_lexer.proofs.ItemSteps.{items-past, items-here, items-behind}
use Rattle.pfs_lexer.proofs.QuoteSteps.{comment-close, comment-on, comment-none}
use Rattle.pfs_lexer.proofs.QuoteGrammar.{more-some, more-none, quoted_closes, StaysOpen, quoted_opens}
use Rattle.pfs_lexer.proofs.FirstBytes.{kind_of, digit-kind, start-kind, operator-tells, token-kind}
use Rattle.pfs_lexer.proofs.LongestTokens.{word_most, operator_most, number_most, between_most}
use Rattle.pfs_lexer.proofs.NumberGrammar.{run_all, number_is, number_within, word_is, operator_is, operator_within, no_operator}

-- one blank, where these bytes stand behind it
abbrev pub IsOneBlank : List ℕ → List ℕ → Type 0
IsOneBlank piece after =
    ((b : ℕ) × (piece ≡ b ∷ []) × (is_blank b ≡ true)) ⊎ (IsLineComment piece after ⊎ IsComment piece after)

-- no longer front is a token
abbrev pub NoLonger : List ℕ → ℕ → Type 0
NoLonger bytes len = (kind : TokenKind) (m : ℕ) → len < m → m ≤ length bytes → IsToken kind (take m bytes) → ⊥

-- it is enough to ask of the kind that the first byte tells
no_longer : (kind : TokenKind) (b : ℕ) (xs : List ℕ) (len : ℕ) → kind_of b ≡ Some kind → ((m : ℕ) → m ≤ length (b ∷ xs) → IsToken kind (take m (b ∷ xs)) → m ≤ len) → NoLonger (b ∷ xs) len
no_longer kind b xs len tells most other zero less fits is = omega arith
no_longer kind b xs len tells most other (suc m) less fits is =
    let same : kind ≡ other = cc (tells, token-kind other b (take m xs) is) in
    let bound = most (suc m) fits (subst (λ k. IsToken k (take (suc m) (b ∷ xs))) (sym same) is) in
    absurd (omega (arith, bound))

-- what stands at the front of the bytes is what the front says
abbrev pub FrontIs : List ℕ → Front → Type 0
FrontIs bytes (fronts.Blank len) = (0 < len) × (len ≤ length bytes) × IsOneBlank (take len bytes) (drop len bytes)
FrontIs bytes (fronts.Piece kind len) = (0 < len) × (len ≤ length bytes) × IsToken kind (take len bytes) × NoLonger bytes len × (¬ GoesOn kind (take len bytes) (drop len bytes))
FrontIs bytes fronts.OpenString = IsOpen 39 bytes ⊎ (IsOpen 34 bytes ⊎ IsOpen 96 bytes)
FrontIs bytes fronts.OpenComment = (rest : List ℕ) × (bytes ≡ codes "/*" ++ rest) × HasNoClose rest []
FrontIs bytes fronts.BadByte = (b : ℕ) × (rest : List ℕ) × (bytes ≡ b ∷ rest) × (begins_nothing b ≡ true)

-- a line up to its end
line_ends : (xs : List ℕ) → EndsLine (drop (position_or_len (λ b. b == 10) xs) xs)
line_ends [] = tt
line_ends (x ∷ xs) =
    cond_both (not (x == 10)) (1 + position_or_len (λ b. b == 10) xs) 0 (λ n. EndsLine (drop n (x ∷ xs)))
    (λ other.
    let one : 1 + position_or_len (λ b. b == 10) xs ≡ suc (position_or_len (λ b. b == 10) xs) = omega arith in
    rw one (line_ends xs))
    (λ feed. eqb-true x 10 (not-false (x == 10) feed))

-- the bytes up to the first `*/`
record ClosesComment (xs : List ℕ) (n : ℕ) : Type 0 where
  pub body : List ℕ
  pub rest : List ℕ
  pub split : xs ≡ body ++ (codes "*/" ++ rest)
  pub len : n ≡ length body + 2
  pub first : HasNoClose body (codes "*/" ++ rest)

comment_closes : (xs : List ℕ) (n : ℕ) → comment_len xs ≡ Some n → ClosesComment xs n
comment_closes [] n e = absurd (cc (comment-none, e))
comment_closes (b ∷ xs) n e = elim (cases_Bool (starts_with nat_eq (b ∷ xs) (codes "*/"))) [
  | inl here ↦
      let two : Some 2 ≡ Some n = sym (comment-close b xs here) ∙ e in
      let split = (starts_is Decides-eqb (b ∷ xs) (codes "*/") (starts_with nat_eq (b ∷ xs) (codes "*/")) refl).0 here in
      record { body = []; rest = drop 2 (b ∷ xs); split = split; len = sym (cc two); first = tt }
  | inr on ↦
      let l = more-some 1 n (comment_len xs) (sym (comment-on b xs on) ∙ e) in
      let inner = comment_closes xs l.less l.is in
      record {
        body = b ∷ inner.body;
        rest = inner.rest;
        split = ap (λ r. b ∷ r) inner.split;
        len = omega (arith, l.sum, inner.len);
        first = (subst (λ r. starts_with nat_eq (b ∷ r) (codes "*/") ≡ false) inner.split on, inner.first);
      }
]

comment_opens : (xs : List ℕ) → comment_len xs ≡ None → HasNoClose xs []
comment_opens [] e = tt
comment_opens (b ∷ xs) e = elim (cases_Bool (starts_with nat_eq (b ∷ xs) (codes "*/"))) [
  | inl here ↦ absurd (cc (comment-close b xs here, e))
  | inr on ↦ (
    subst (λ r. starts_with nat_eq (b ∷ r) (codes "*/") ≡ false) (sym (append-nil xs)) on,
    comment_opens xs (more-none 1 (comment_len xs) (sym (comment-on b xs on) ∙ e)),
  )
]

starts : (xs needle : List ℕ) → starts_with nat_eq xs needle ≡ true → xs ≡ needle ++ drop (length needle) xs
starts xs needle e = (starts_is Decides-eqb xs needle (starts_with nat_eq xs needle) refl).0 e

take_more_one : (n : ℕ) (b : ℕ) (xs : List ℕ) → take (1 + n) (b ∷ xs) ≡ b ∷ take n xs
take_more_one n b xs =
    let one : 1 + n ≡ suc n = omega arith in
    ap (λ k. take k (b ∷ xs)) one

drop_more_one : (n : ℕ) (b : ℕ) (xs : List ℕ) → drop (1 + n) (b ∷ xs) ≡ drop n xs
drop_more_one n b xs =
    let one : 1 + n ≡ suc n = omega arith in
    ap (λ k. drop k (b ∷ xs)) one

-- a line comment behind its mark
hash_is : (xs : List ℕ) → FrontIs (35 ∷ xs) (fronts.Blank (1 + position_or_len (λ b. b == 10) xs))
hash_is xs =
    let n = position_or_len (λ b. b == 10) xs in (
      omega arith,
      omega (arith, prefix_len-le-length (λ b. not (b == 10)) xs),
      inr (inl (
        take n xs,
        inl (take_more_one n 35 xs),
        run_all (λ b. not (b == 10)) xs,
        subst EndsLine (sym (drop_more_one n 35 xs)) (line_ends xs),
      )),
    )

blank_behind : (ys : List ℕ) → (length (45 ∷ 45 ∷ ys) == 2 || is_blank (byte_at (45 ∷ 45 ∷ ys) 2)) ≡ true → BeginsBlank ys
blank_behind [] e = tt
blank_behind (c ∷ ys) e = elim (or_cases (length (45 ∷ 45 ∷ c ∷ ys) == 2) (is_blank c) e) [
  | inl two ↦ absurd (omega (arith, eqb-true (length (45 ∷ 45 ∷ c ∷ ys)) 2 two))
  | inr blank ↦ blank
]

dashes_is : (ys : List ℕ) → (length (45 ∷ 45 ∷ ys) == 2 || is_blank (byte_at (45 ∷ 45 ∷ ys) 2)) ≡ true → FrontIs (45 ∷ 45 ∷ ys) (fronts.Blank (1 + position_or_len (λ b. b == 10) (45 ∷ ys)))
dashes_is ys e =
    let n = position_or_len (λ b. b == 10) ys in
    let piece : take (1 + (1 + n)) (45 ∷ 45 ∷ ys) ≡ 45 ∷ 45 ∷ take n ys = take_more_one (1 + n) 45 (45 ∷ ys) ∙ ap (λ r. 45 ∷ r) (take_more_one n 45 ys) in
    let after : drop (1 + (1 + n)) (45 ∷ 45 ∷ ys) ≡ drop n ys = drop_more_one (1 + n) 45 (45 ∷ ys) ∙ drop_more_one n 45 ys in (
      omega arith,
      omega (arith, prefix_len-le-length (λ b. not (b == 10)) ys),
      inr (inl (
        take n ys,
        inr (piece, subst BeginsBlank (sym (ap (λ r. take n ys ++ r) after ∙ take-append-drop n ys)) (blank_behind ys e)),
        run_all (λ b. not (b == 10)) ys,
        subst EndsLine (sym after) (line_ends ys),
      )),
    )

line_is : (b : ℕ) (xs : List ℕ) → begins_line_comment (b ∷ xs) ≡ true → FrontIs (b ∷ xs) (fronts.Blank (1 + position_or_len (λ b. b == 10) xs))
line_is b xs e = elim (or_cases (b == 35) (starts_with nat_eq (b ∷ xs) (codes "--") && (length (b ∷ xs) == 2 || is_blank (byte_at (b ∷ xs) 2))) e) [
  | inl hash ↦ subst (λ c. FrontIs (c ∷ xs) (fronts.Blank (1 + position_or_len (λ b. b == 10) xs))) (sym (eqb-true b 35 hash)) (hash_is xs)
  | inr dashes ↦
      let parts = and_parts (starts_with nat_eq (b ∷ xs) (codes "--")) (length (b ∷ xs) == 2 || is_blank (byte_at (b ∷ xs) 2)) dashes in
      let split = starts (b ∷ xs) (codes "--") parts.0 in
      subst (λ bytes. FrontIs bytes (fronts.Blank (1 + position_or_len (λ b. b == 10) (drop 1 bytes)))) (sym split)
      (dashes_is (drop 2 (b ∷ xs)) (subst (λ bytes. (length bytes == 2 || is_blank (byte_at bytes 2)) ≡ true) split parts.1))
]

commented_is : (ys : List ℕ) (o : Option ℕ) → comment_len ys ≡ o → FrontIs (47 ∷ 42 ∷ ys) (commented o)
commented_is ys None e = (ys, refl, comment_opens ys e)
commented_is ys (Some n) e =
    let c = comment_closes ys n e in
    let split : ys ≡ (c.body ++ codes "*/") ++ c.rest = c.split ∙ sym (append_assoc c.body (codes "*/") c.rest) in
    let len : length (c.body ++ codes "*/") ≡ n = omega (arith, length-append c.body (codes "*/"), c.len) in
    let two : 2 + n ≡ suc (suc n) = omega arith in
    let piece : take (2 + n) (47 ∷ 42 ∷ ys) ≡ 47 ∷ 42 ∷ (c.body ++ codes "*/") = ap (λ k. take k (47 ∷ 42 ∷ ys)) two ∙ ap (λ r. 47 ∷ 42 ∷ take n r) split ∙ ap (λ r. 47 ∷ 42 ∷ r) (take_at (c.body ++ codes "*/") c.rest n len) in
    let after : drop (2 + n) (47 ∷ 42 ∷ ys) ≡ c.rest = ap (λ k. drop k (47 ∷ 42 ∷ ys)) two ∙ ap (drop n) split ∙ drop_at (c.body ++ codes "*/") c.rest n len in (
      omega arith,
      omega (arith, ap length split, length-append (c.body ++ codes "*/") c.rest, len),
      inr (inr (c.body, piece, subst (λ r. HasNoClose c.body (codes "*/" ++ r)) (sym after) c.first)),
    )

comment_is : (b : ℕ) (xs : List ℕ) → begins_comment (b ∷ xs) ≡ true → FrontIs (b ∷ xs) (commented (comment_len (drop 2 (b ∷ xs))))
comment_is b xs e =
    let split = starts (b ∷ xs) (codes "/*") e in
    subst (λ bytes. FrontIs bytes (commented (comment_len (drop 2 bytes)))) (sym split)
    (commented_is (drop 2 (b ∷ xs)) (comment_len (drop 2 (b ∷ xs))) refl)

-- from quote to quote, or an open one
record ClosedIs (kind : TokenKind) (q : ℕ) : Type 0 where
  pub tells : kind_of q ≡ Some kind
  pub no_slash : q ≢ 92
  pub is_between : (b : ℕ) (xs : List ℕ) (m : ℕ) → b ≡ q → IsToken kind (take m (b ∷ xs)) → IsBetween q (take m (b ∷ xs))
  pub is_token : (bytes : List ℕ) → IsBetween q bytes → IsToken kind bytes
  pub ends : (xs : List ℕ) (m : ℕ) (behind : List ℕ) → ¬ BeginsWith q behind → ¬ GoesOn kind (take m (q ∷ xs)) behind
  pub is_open : (bytes : List ℕ) → IsOpen q bytes → IsOpen 39 bytes ⊎ (IsOpen 34 bytes ⊎ IsOpen 96 bytes)

open_is : (q : ℕ) (xs : List ℕ) → StaysOpen q xs → IsOpen q (q ∷ xs)
open_is q xs o = (
  o.body,
  o.is,
  elim o.split [ inl e ↦ inl (ap (λ r. q ∷ r) e) | inr e ↦ inr (e.0, ap (λ r. q ∷ r) e.1) ],
)

closed_by : (kind : TokenKind) (q : ℕ) (xs : List ℕ) → ClosedIs kind q → (o : Option ℕ) → quoted_len q xs ≡ o → FrontIs (q ∷ xs) (closed kind o)
closed_by kind q xs say None e = say.is_open (q ∷ xs) (open_is q xs (quoted_opens q xs e))
closed_by kind q xs say (Some n) e =
    let c = quoted_closes q xs n e in
    let split : xs ≡ (c.body ++ q ∷ []) ++ c.rest = c.split ∙ sym (append_assoc c.body (q ∷ []) c.rest) in
    let len : length (c.body ++ q ∷ []) ≡ n = omega (arith, length-append c.body (q ∷ []), c.len) in
    let piece : take (1 + n) (q ∷ xs) ≡ q ∷ (c.body ++ q ∷ []) = take_more_one n q xs ∙ ap (λ r. q ∷ take n r) split ∙ ap (λ r. q ∷ r) (take_at (c.body ++ q ∷ []) c.rest n len) in (
      omega arith,
      omega (arith, ap length split, length-append (c.body ++ q ∷ []) c.rest, len),
      say.is_token (take (1 + n) (q ∷ xs)) (c.body, piece, c.is),
      no_longer kind q xs (1 + n) say.tells
          (λ m fits is. between_most q q xs n m say.no_slash refl e fits (say.is_between q xs m refl is)),
      say.ends xs (1 + n) (drop (1 + n) (q ∷ xs)) (λ again. c.stops (subst (BeginsWith q) (drop_more_one n q xs ∙ ap (drop n) split ∙ drop_at (c.body ++ q ∷ []) c.rest n len) again)),
    )

quote_is : (kind : TokenKind) (q b : ℕ) (xs : List ℕ) → ClosedIs kind q → b ≡ q → FrontIs (b ∷ xs) (closed kind (quoted_len b xs))
quote_is kind q b xs say e =
    subst (λ c. FrontIs (c ∷ xs) (closed kind (quoted_len c xs))) (sym e) (closed_by kind q xs say (quoted_len q xs) refl)

-- a string whose first byte is one quote isn't one between the others
other_between : (q r b : ℕ) (xs : List ℕ) (m : ℕ) → b ≡ q → q ≢ r → IsBetween r (take m (b ∷ xs)) → IsBetween q (take m (b ∷ xs))
other_between q r b xs zero first apart is = absurd (cc (is.1))
other_between q r b xs (suc m) first apart is =
    let same : b ≡ r = cc (is.1) in
    absurd (apart (sym first ∙ same))

not_between : (q r : ℕ) (xs : List ℕ) (m : ℕ) → q ≢ r → ¬ IsBetween r (take m (q ∷ xs))
not_between q r xs zero apart is = absurd (cc (is.1))
not_between q r xs (suc m) apart is =
    let same : q ≡ r = cc (is.1) in
    apart same

quote_says : ClosedIs String 39
quote_says = record {
  tells = refl;
  no_slash = λ e. absurd (omega (arith, e));
  is_between = λ b xs m same token. elim token [ inl is ↦ is | inr is ↦ other_between 39 34 b xs m same (λ e. absurd (omega (arith, e))) is ];
  is_token = λ bytes is. inl is;
  ends = λ xs m behind stops goes. elim goes [ inl own ↦ stops own.1 | inr other ↦ not_between 39 34 xs m (λ e. absurd (omega (arith, e))) other.0 ];
  is_open = λ bytes is. inl is;
}

double_quote_says : ClosedIs String 34
double_quote_says = record {
  tells = refl;
  no_slash = λ e. absurd (omega (arith, e));
  is_between = λ b xs m same token. elim token [ inl is ↦ other_between 34 39 b xs m same (λ e. absurd (omega (arith, e))) is | inr is ↦ is ];
  is_token = λ bytes is. inr is;
  ends = λ xs m behind stops goes. elim goes [ inl other ↦ not_between 34 39 xs m (λ e. absurd (omega (arith, e))) other.0 | inr own ↦ stops own.1 ];
  is_open = λ bytes is. inr (inl is);
}

backquote_says : ClosedIs QuotedName 96
backquote_says = record {
  tells = refl;
  no_slash = λ e. absurd (omega (arith, e));
  is_between = λ b xs m same token. token;
  is_token = λ bytes is. is;
  ends = λ xs m behind stops goes. stops goes.1;
  is_open = λ bytes is. inr (inr is);
}

word_within : (b : ℕ) (xs : List ℕ) → 1 + prefix_len is_word_byte xs ≤ length (b ∷ xs)
word_within b xs = omega (arith, prefix_len-le-length is_word_byte xs)

nothing : (b : ℕ) → is_blank b ≡ false → (b == 35) ≡ false → (b == 39 || b == 34) ≡ false → (b == 96) ≡ false → is_ascii_digit b ≡ false → is_word_start b ≡ false → list_any (λ operator. operator == b) singles ≡ false → begins_nothing b ≡ true
nothing b blank hash quotes back digit start operator =
    let quote = or_parts (b == 39) (b == 34) quotes in
    let word : is_word_byte b ≡ false = or_from (is_word_start b) (is_ascii_digit b) start digit in
    let rest = or_from (is_word_byte b) (list_any (λ operator. operator == b) singles) word operator in
    not_from_false _ (or_from (is_blank b) _ blank (or_from (b == 35) _ hash (or_from (b == 39) _ quote.0 (or_from (b == 34) _ quote.1 (or_from (b == 96) _ back rest)))))

token_is : (b : ℕ) (xs : List ℕ) → is_blank b ≡ false → begins_line_comment (b ∷ xs) ≡ false → FrontIs (b ∷ xs) (token_of (b ∷ xs))
unfolding token_of
token_is b xs blank line =
    cond_both (b == 39 || b == 34) (closed String (quoted_len b xs)) _ (FrontIs (b ∷ xs))
    (λ quotes. elim (or_cases (b == 39) (b == 34) quotes) [
      | inl single ↦ quote_is String 39 b xs quote_says (eqb-true b 39 single)
      | inr double ↦ quote_is String 34 b xs double_quote_says (eqb-true b 34 double)
    ])
    (λ quotes. cond_both (b == 96) (closed QuotedName (quoted_len b xs)) _ (FrontIs (b ∷ xs))
    (λ back. quote_is QuotedName 96 b xs backquote_says (eqb-true b 96 back))
    (λ back. cond_both (is_ascii_digit b) (fronts.Piece Number (number_len (b ∷ xs))) _ (FrontIs (b ∷ xs))
    (λ digit.
    let within = number_within (b ∷ xs) (omega arith) in
    (within.0, within.1, number_is (b ∷ xs) b refl digit, no_longer Number b xs (number_len (b ∷ xs)) (digit-kind b digit) (number_most b xs), λ no. no))
    (λ digit. cond_both (is_word_start b) (fronts.Piece Word (1 + prefix_len is_word_byte xs)) _ (FrontIs (b ∷ xs))
    (λ start. (omega arith, word_within b xs, word_is (b ∷ xs) b refl start, no_longer Word b xs (1 + prefix_len is_word_byte xs) (start-kind b start) (word_most b xs), λ no. no))
    (λ start. cond_both (nat_lt 0 (operator_len (b ∷ xs))) (fronts.Piece Operator (operator_len (b ∷ xs))) fronts.BadByte (FrontIs (b ∷ xs))
    (λ some.
    let positive = ltb-true 0 (operator_len (b ∷ xs)) some in
    let token = operator_is (b ∷ xs) positive in
    (positive, operator_within (b ∷ xs), token, no_longer Operator b xs (operator_len (b ∷ xs)) (operator-tells b xs (operator_len (b ∷ xs)) positive token) (operator_most (b ∷ xs)), λ no. no))
    (λ none. (
      b,
      xs,
      refl,
      nothing b blank (or_parts (b == 35) _ line).0 quotes back digit start
          (no_operator b xs (omega (arith, ltb-false 0 (operator_len (b ∷ xs)) none))),
    ))))))

-- the same, and no comment begins where a token stands
abbrev pub PlaceIs : List ℕ → Front → Type 0
PlaceIs bytes (fronts.Blank len) = FrontIs bytes (fronts.Blank len)
PlaceIs bytes (fronts.Piece kind len) = FrontIs bytes (fronts.Piece kind len) × (¬ BeginsComment bytes)
PlaceIs bytes fronts.OpenString = FrontIs bytes fronts.OpenString
PlaceIs bytes fronts.OpenComment = FrontIs bytes fronts.OpenComment
PlaceIs bytes fronts.BadByte = FrontIs bytes fronts.BadByte

place_by : (bytes : List ℕ) (front : Front) → (¬ BeginsComment bytes) → FrontIs bytes front → PlaceIs bytes front
place_by bytes (fronts.Blank len) none is = is
place_by bytes (fronts.Piece kind len) none is = (is, none)
place_by bytes fronts.OpenString none is = is
place_by bytes fronts.OpenComment none is = is
place_by bytes fronts.BadByte none is = is

-- a comment by its first bytes, and the tests that find it
dash_test : (rest : List ℕ) → BeginsBlank rest → (length (45 ∷ 45 ∷ rest) == 2 || is_blank (byte_at (45 ∷ 45 ∷ rest) 2)) ≡ true
dash_test [] blank = refl
dash_test (c ∷ rest) blank = or_right (length (45 ∷ 45 ∷ c ∷ rest) == 2) (is_blank c) blank

pub dashes_begin : (rest : List ℕ) → BeginsBlank rest → begins_line_comment (45 ∷ 45 ∷ rest) ≡ true
dashes_begin rest blank = dash_test rest blank

no_comment : (bytes : List ℕ) → begins_line_comment bytes ≡ false → begins_comment bytes ≡ false → ¬ BeginsComment bytes
no_comment bytes line comment (rest, inl hash) = let is : begins_line_comment bytes ≡ true = ap begins_line_comment hash in false≢true (sym line ∙ is)
no_comment bytes line comment (rest, inr (inl dashes)) =
    let is : begins_line_comment bytes ≡ true = ap begins_line_comment dashes.0 ∙ dashes_begin rest dashes.1 in false≢true (sym line ∙ is)
no_comment bytes line comment (rest, inr (inr slash)) = let is : begins_comment bytes ≡ true = ap begins_comment slash in false≢true (sym comment ∙ is)

commented_place : (bytes : List ℕ) (o : Option ℕ) → FrontIs bytes (commented o) → PlaceIs bytes (commented o)
commented_place bytes None is = is
commented_place bytes (Some n) is = is

pub place_is : (b : ℕ) (xs : List ℕ) → PlaceIs (b ∷ xs) (front_of (b ∷ xs))
unfolding front_of
place_is b xs =
    cond_both (is_blank b) (fronts.Blank 1) _ (PlaceIs (b ∷ xs))
    (λ blank. (lit< tt, omega arith, inl (b, refl, blank)))
    (λ blank. cond_both (begins_line_comment (b ∷ xs)) (fronts.Blank (1 + position_or_len (λ b. b == 10) xs)) _ (PlaceIs (b ∷ xs))
    (λ line. line_is b xs line)
    (λ line. cond_both (begins_comment (b ∷ xs)) (commented (comment_len (drop 2 (b ∷ xs)))) (token_of (b ∷ xs)) (PlaceIs (b ∷ xs))
    (λ comment. commented_place (b ∷ xs) (comment_len (drop 2 (b ∷ xs))) (comment_is b xs comment))
    (λ comment. place_by (b ∷ xs) (token_of (b ∷ xs)) (no_comment (b ∷ xs) line comment) (token_is b xs blank line))))

-- a blank before what is accounted for
prepend : (place start : ℕ) (piece rest : List ℕ) (items : List (Result Token LexFault)) → start ≡ place + length piece → IsOneBlank piece rest → Accounts start rest items → Accounts place (piece ++ rest) items
prepend place start piece rest [] e blank a =
    (piece ∷ a.0, ap (λ r. piece ++ r) a.1, (subst (IsOneBlank piece) (a.1 ∙ sym (append-nil (concat a.0))) blank, a.2))
prepend place start piece rest (Ok token ∷ items) e blank a = (
  piece ∷ a.0,
  a.1,
  a.2,
  ap (λ r. piece ++ r) a.3 ∙ sym (append_assoc piece (concat a.0) (a.1 ++ a.2)),
  (subst (IsOneBlank piece) a.3 blank, a.4),
  omega (arith, a.5, length-append piece (concat a.0)),
  a.6,
  a.7,
  a.8,
  a.9,
  a.10,
  a.11,
)
prepend place start piece rest (Err fault ∷ items) e blank a =
    let at : start + length (concat a.0) ≡ place + length (concat (piece ∷ a.0)) = omega (arith, length-append piece (concat a.0)) in (
      piece ∷ a.0,
      a.1,
      ap (λ r. piece ++ r) a.2 ∙ sym (append_assoc piece (concat a.0) a.1),
      (subst (IsOneBlank piece) a.2 blank, a.3),
      subst (λ k. IsFault fault k a.1) at a.4,
      a.5,
    )

-- what stands behind so many bytes is accounted for
abbrev AccountsBehind : ℕ → List ℕ → (ℕ → List (Result Token LexFault)) → Type 0
AccountsBehind place bytes behind = (len : ℕ) → 0 < len → len ≤ length bytes → Accounts (place + len) (drop len bytes) (behind len)

account_by : (place : ℕ) (bytes : List ℕ) (behind : ℕ → List (Result Token LexFault)) (front : Front) → PlaceIs bytes front → AccountsBehind place bytes behind → Accounts place bytes (placed place front behind)
account_by place bytes behind (fronts.Blank len) is more =
    let start : place + len ≡ place + length (take len bytes) = omega (arith, length-take-le len bytes is.1) in
    subst (λ bs. Accounts place bs (behind len)) (take-append-drop len bytes)
    (prepend place (place + len) (take len bytes) (drop len bytes) (behind len) start is.2 (more len is.0 is.1))
account_by place bytes behind (fronts.Piece kind len) is more = (
  [],
  take len bytes,
  drop len bytes,
  sym (take-append-drop len bytes),
  tt,
  omega arith,
  omega (arith, length-take-le len bytes is.0.1),
  is.0.2,
  λ other n some fits token. is.0.3 other (len + n) (omega arith) (omega (arith, fits, length-drop len bytes)) (subst (IsToken other) (sym (take-add len n bytes)) token),
  λ comment. is.1 (subst BeginsComment (take-append-drop len bytes) comment),
  is.0.4,
  more len is.0.0 is.0.1,
)
account_by place bytes behind fronts.OpenString is more = ([], bytes, refl, tt, (omega arith, is), refl)
account_by place bytes behind fronts.OpenComment is more = ([], bytes, refl, tt, (omega arith, is.0, is.1, is.2), refl)
account_by place bytes behind fronts.BadByte is more = ([], bytes, refl, tt, (omega arith, is.0, is.1, is.2, is.3), refl)

accounts_within : (most place : ℕ) (bytes : List ℕ) → length bytes ≤ most → Accounts place bytes (items_from place 0 bytes)
accounts_within most place [] h = subst (Accounts place []) (sym (items-past place)) ([], refl, tt)
accounts_within zero place (b ∷ bytes) h = absurd (omega arith)
accounts_within (suc most) place (b ∷ bytes) h =
    let behind : ℕ → List (Result Token LexFault) = λ len. items_from (place + 1) (len - 1) bytes in
    let more : AccountsBehind place (b ∷ bytes) behind = λ len some fits.
    subst (Accounts (place + len) (drop len (b ∷ bytes))) (sym (items-behind place len b bytes some))
    (accounts_within most (place + len) (drop len (b ∷ bytes)) (omega (arith, length-drop len (b ∷ bytes)))) in
    subst (Accounts place (b ∷ bytes)) (sym (items-here place b bytes))
    (account_by place (b ∷ bytes) behind (front_of (b ∷ bytes)) (place_is b bytes) more)

pub accounts : (text : List ℕ) → Accounts 0 text (items_of text)
accounts text = accounts_within (length text) 0 text (omega arith)
