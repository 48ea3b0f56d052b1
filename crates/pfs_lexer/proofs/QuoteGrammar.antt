-- What stands between quotes is what the grammar says.
use Rattle.std.proofs.Common.{◌≡◌, ◌≢◌, ◌⊎◌, ℕ, ◌+◌, true, false, List, [], ◌∷◌, ◌++◌, length, Option, None, Some, refl, ap, sym, ◌∙◌, inl, inr, arith}
use Rattle.std.specs.Prelude.{◌==◌, ◌&&◌, not}
use Rattle.std.proofs.lemmas.Bool.{cases_Bool, cases_eq, eqb-true, eqb-false, eq-eqb, ne_eqb, and_parts, and_cases, cond-true, cond-false, not-false, false≢true}
use Rattle.pfs_lexer.specs.QuotePairs.{is_pair, more, quoted_len}
use Rattle.pfs_lexer.specs.TokenGrammar.{IsPlain, IsDoubled, IsBody}
use Rattle.pfs_lexer.specs.Accounts.{BeginsWith}
use Rattle.pfs_lexer.proofs.QuoteSteps.{quoted-pair, quoted-end, quoted-other, last-end, last-other, quoted-none}

-- a length of some bytes more
pub record MoreThan (n k : ℕ) (o : Option ℕ) : Type 0 where
  pub less : ℕ
  pub is : o ≡ Some less
  pub sum : k ≡ n + less

pub more-some : (n k : ℕ) (o : Option ℕ) → more n o ≡ Some k → MoreThan n k o
more-some n k None e = absurd (cc)
more-some n k (Some m) e =
    let same : n + m ≡ k = cc in
    record { less = m; is = refl; sum = sym same }

pub more-none : (n : ℕ) (o : Option ℕ) → more n o ≡ None → o ≡ None
more-none n None e = refl
more-none n (Some m) e = absurd (cc)

pair-doubled : (q b c : ℕ) → is_pair q b c ≡ true → IsDoubled q b c
pair-doubled q b c e = elim (cases_eq b q) [
  | inl same ↦
      let doubled : (c == q) ≡ true = sym (cond-true (b == q) (c == q) (not (q == 96) && b == 92) (eq-eqb b q same)) ∙ e in
      inl (same, eqb-true c q doubled)
  | inr other ↦
      let both : (not (q == 96) && b == 92) ≡ true = sym (cond-false (b == q) (c == q) (not (q == 96) && b == 92) (ne_eqb b q other)) ∙ e in
      let parts = and_parts (not (q == 96)) (b == 92) both in
      inr (λ back. absurd (cc (ap not (eq-eqb q 96 back), parts.0)), eqb-true b 92 parts.1)
]

single-plain : (q b c : ℕ) → is_pair q b c ≡ false → b ≢ q → IsPlain q b
single-plain q b c e other =
    let neither : (not (q == 96) && b == 92) ≡ false = sym (cond-false (b == q) (c == q) (not (q == 96) && b == 92) (ne_eqb b q other)) ∙ e in
    elim (and_cases (not (q == 96)) (b == 92) neither) [
      | inl back ↦ (other, inl (eqb-true q 96 (not-false (q == 96) back)))
      | inr plain ↦ (other, inr (eqb-false b 92 plain))
    ]

body-plain : (q b : ℕ) (body : List ℕ) → IsPlain q b → IsBody q body → IsBody q (b ∷ body)
body-plain q b [] plain is = plain
body-plain q b (c ∷ body) plain is = inl (plain, is)

-- the body of a closed one, and what stands behind its closing quote
pub record Closes (q : ℕ) (xs : List ℕ) (n : ℕ) : Type 0 where
  pub body : List ℕ
  pub rest : List ℕ
  pub split : xs ≡ body ++ q ∷ rest
  pub len : n ≡ length body + 1
  pub is : IsBody q body
  pub stops : ¬ BeginsWith q rest

pub quoted_closes : (q : ℕ) (xs : List ℕ) (n : ℕ) → quoted_len q xs ≡ Some n → Closes q xs n
quoted_closes q [] n e = absurd (cc (quoted-none q, e))
quoted_closes q (b ∷ []) n e = elim (cases_eq b q) [
  | inl same ↦
      let one : Some 1 ≡ Some n = sym (last-end q b (eq-eqb b q same)) ∙ e in
      record { body = []; rest = []; split = ap (λ x. x ∷ []) same; len = sym (cc one); is = tt; stops = λ no. no }
  | inr other ↦ absurd (cc (more-none_is, last-other q b (ne_eqb b q other), e))
]
  where
    more-none_is : more 1 (quoted_len q []) ≡ None
    more-none_is = ap (more 1) (quoted-none q)
quoted_closes q (b ∷ c ∷ xs) n e = elim (cases_Bool (is_pair q b c)) [
  | inl pair ↦
      let l = more-some 2 n (quoted_len q xs) (sym (quoted-pair q b c xs pair) ∙ e) in
      let inner = quoted_closes q xs l.less l.is in
      record {
        body = b ∷ c ∷ inner.body;
        rest = inner.rest;
        split = ap (λ r. b ∷ c ∷ r) inner.split;
        len = omega (arith, l.sum, inner.len);
        is = inr (pair-doubled q b c pair, inner.is);
        stops = inner.stops;
      }
  | inr single ↦ elim (cases_eq b q) [
    | inl same ↦
        let one : Some 1 ≡ Some n = sym (quoted-end q b c xs single (eq-eqb b q same)) ∙ e in
        record { body = []; rest = c ∷ xs; split = ap (λ x. x ∷ c ∷ xs) same; len = sym (cc one); is = tt; stops = λ again. false≢true (sym single ∙ (cond-true (b == q) (c == q) (not (q == 96) && b == 92) (eq-eqb b q same) ∙ eq-eqb c q again)) }
    | inr other ↦
        let l = more-some 1 n (quoted_len q (c ∷ xs)) (sym (quoted-other q b c xs single (ne_eqb b q other)) ∙ e) in
        let inner = quoted_closes q (c ∷ xs) l.less l.is in
        record {
          body = b ∷ inner.body;
          rest = inner.rest;
          split = ap (λ r. b ∷ r) inner.split;
          len = omega (arith, l.sum, inner.len);
          is = body-plain q b inner.body (single-plain q b c single other) inner.is;
          stops = inner.stops;
        }
  ]
]

-- the body of an open one
pub record StaysOpen (q : ℕ) (xs : List ℕ) : Type 0 where
  pub body : List ℕ
  pub is : IsBody q body
  pub split : (xs ≡ body) ⊎ ((q ≢ 96) × (xs ≡ body ++ 92 ∷ []))

opens-on : (q b : ℕ) (xs : List ℕ) → IsPlain q b → StaysOpen q xs → StaysOpen q (b ∷ xs)
opens-on q b xs plain inner = record {
  body = b ∷ inner.body;
  is = body-plain q b inner.body plain inner.is;
  split = elim inner.split [ inl e ↦ inl (ap (λ r. b ∷ r) e) | inr e ↦ inr (e.0, ap (λ r. b ∷ r) e.1) ];
}

opens-pair : (q b c : ℕ) (xs : List ℕ) → IsDoubled q b c → StaysOpen q xs → StaysOpen q (b ∷ c ∷ xs)
opens-pair q b c xs doubled inner = record {
  body = b ∷ c ∷ inner.body;
  is = inr (doubled, inner.is);
  split = elim inner.split [ inl e ↦ inl (ap (λ r. b ∷ c ∷ r) e) | inr e ↦ inr (e.0, ap (λ r. b ∷ c ∷ r) e.1) ];
}

opens-last : (q b : ℕ) → b ≢ q → StaysOpen q (b ∷ [])
opens-last q b other = elim (cases_eq b 92) [
  | inl slash ↦ elim (cases_eq q 96) [
    | inl back ↦ record { body = b ∷ []; is = (other, inl back); split = inl refl }
    | inr quote ↦ record { body = []; is = tt; split = inr (quote, ap (λ x. x ∷ []) slash) }
  ]
  | inr plain ↦ record { body = b ∷ []; is = (other, inr plain); split = inl refl }
]

pub quoted_opens : (q : ℕ) (xs : List ℕ) → quoted_len q xs ≡ None → StaysOpen q xs
quoted_opens q [] e = record { body = []; is = tt; split = inl refl }
quoted_opens q (b ∷ []) e = elim (cases_eq b q) [
  | inl same ↦ absurd (cc (last-end q b (eq-eqb b q same), e))
  | inr other ↦ opens-last q b other
]
quoted_opens q (b ∷ c ∷ xs) e = elim (cases_Bool (is_pair q b c)) [
  | inl pair ↦
      opens-pair q b c xs (pair-doubled q b c pair)
      (quoted_opens q xs (more-none 2 (quoted_len q xs) (sym (quoted-pair q b c xs pair) ∙ e)))
  | inr single ↦ elim (cases_eq b q) [
    | inl same ↦ absurd (cc (quoted-end q b c xs single (eq-eqb b q same), e))
    | inr other ↦
        opens-on q b (c ∷ xs) (single-plain q b c single other)
        (quoted_opens q (c ∷ xs) (more-none 1 (quoted_len q (c ∷ xs)) (sym (quoted-other q b c xs single (ne_eqb b q other)) ∙ e)))
  ]
]
