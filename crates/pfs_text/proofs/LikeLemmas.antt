-- The test for a text like a pattern says what being like it means.
use Rattle.std.proofs.Common.{◌≡◌, ℕ, zero, suc, Bool, true, false, cond, eqb, ◌↔◌, List, [], ◌∷◌, drop, inl, inr, refl, sym, subst}
use Rattle.std.specs.Prelude.{IsTrue}
use Rattle.std.proofs.lemmas.Bool.{false≢true, or_left, or_right, or_cases, and_parts, and_from}
use Rattle.std.proofs.lemmas.Bool.Decides.{Decides-eqb}
use Rattle.pfs_text.specs.Patterns.{IsLike, StandFor, part_of, parts_of}
use Rattle.pfs_text.specs.Likes.{is_like, is_empty, passes_somewhere, passes_behind, passes_behind_any, stands_first}

-- the test says of each text whether the fact holds
abbrev pub Tells : (List ℕ → Bool) → (List ℕ → Type 0) → Type 0
Tells test fact = (text : List ℕ) → IsTrue (test text) ↔ fact text

drop_none : (n : ℕ) → drop {A = ℕ} n [] ≡ []
drop_none zero = refl
drop_none (suc n) = refl

module _ (test : List ℕ → Bool) (fact : List ℕ → Type 0) (tells : Tells test fact) where
  later : (text : List ℕ) (byte : ℕ) → (n : ℕ) × fact (drop n text) → (n : ℕ) × fact (drop n (byte ∷ text))
  later text byte (n, holds) = (suc n, holds)

  pub somewhere_holds : (text : List ℕ) → IsTrue (passes_somewhere test text) → (n : ℕ) × fact (drop n text)
  somewhere_holds [] h = (0, (tells []).0 h)
  somewhere_holds (byte ∷ text) h = elim (or_cases (test (byte ∷ text)) (passes_somewhere test text) h) [
    | inl here ↦ (0, (tells (byte ∷ text)).0 here)
    | inr there ↦ later text byte (somewhere_holds text there)
  ]

  pub somewhere_passes : (text : List ℕ) (n : ℕ) → fact (drop n text) → IsTrue (passes_somewhere test text)
  somewhere_passes [] n holds = (tells []).1 (subst fact (drop_none n) holds)
  somewhere_passes (byte ∷ text) zero holds = or_left (test (byte ∷ text)) (passes_somewhere test text) ((tells (byte ∷ text)).1 holds)
  somewhere_passes (byte ∷ text) (suc n) holds = or_right (test (byte ∷ text)) (passes_somewhere test text) (somewhere_passes text n holds)

-- a test of what is behind a part tells whether the part and those behind it stand for a text
module _ (pattern : List ℕ) (rest : List ℕ → Bool) (tells : Tells rest (StandFor (parts_of pattern))) where
  any_first : (text : List ℕ) → IsTrue (passes_somewhere rest text) ↔ StandFor (part_of 37 ∷ parts_of pattern) text
  any_first text = (λ h. somewhere_holds rest (StandFor (parts_of pattern)) tells text h, λ fits. somewhere_passes rest (StandFor (parts_of pattern)) tells text fits.0 fits.1)

  one_first : (text : List ℕ) → IsTrue (passes_behind_any rest text) ↔ StandFor (part_of 95 ∷ parts_of pattern) text
  one_first [] = (λ h. absurd (false≢true h), λ no. absurd no)
  one_first (byte ∷ text) = tells text

  -- the byte after a `\`
  byte_first : (due : ℕ) (text : List ℕ) → IsTrue (passes_behind due rest text) ↔ StandFor (parts_of (92 ∷ due ∷ pattern)) text
  byte_first due [] = (λ h. absurd (false≢true h), λ no. absurd no)
  byte_first due (byte ∷ text) = (
    λ h. let both = and_parts (eqb byte due) (rest text) h in ((Decides-eqb byte due).0 both.0, (tells text).0 both.1),
    λ fits. and_from (eqb byte due) (rest text) ((Decides-eqb byte due).1 fits.0) ((tells text).1 fits.1),
  )

  first_by : (b : ℕ) (text : List ℕ) (any one : Bool) → eqb b 37 ≡ any → eqb b 95 ≡ one → IsTrue (stands_first b rest text) ↔ StandFor (part_of b ∷ parts_of pattern) text
  first_by b text true one is_any is_one =
      let e : b ≡ 37 = (Decides-eqb b 37).0 is_any in
      subst (λ (n : ℕ). IsTrue (stands_first n rest text) ↔ StandFor (part_of n ∷ parts_of pattern) text) (sym e) (any_first text)
  first_by b text false true is_any is_one =
      let e : b ≡ 95 = (Decides-eqb b 95).0 is_one in
      subst (λ (n : ℕ). IsTrue (stands_first n rest text) ↔ StandFor (part_of n ∷ parts_of pattern) text) (sym e) (one_first text)
  first_by b text false false is_any is_one = rw (is_any, is_one) (byte_first b text)

  pub first_tells : (b : ℕ) (text : List ℕ) → IsTrue (stands_first b rest text) ↔ StandFor (part_of b ∷ parts_of pattern) text
  first_tells b text = first_by b text (eqb b 37) (eqb b 95) refl refl

empty_tells : (text : List ℕ) → IsTrue (is_empty text) ↔ StandFor (parts_of []) text
empty_tells [] = (λ _. tt, λ _. refl)
empty_tells (byte ∷ text) = (λ h. absurd (false≢true h), λ no. absurd no)

escaped_by : (b next : ℕ) (pattern text : List ℕ) (escape : Bool) → eqb b 92 ≡ escape
    → ((rest : List ℕ) → IsTrue (is_like pattern rest) ↔ IsLike pattern rest) → ((rest : List ℕ) → IsTrue (is_like (next ∷ pattern) rest) ↔ IsLike (next ∷ pattern) rest)
    → IsTrue (is_like (b ∷ next ∷ pattern) text) ↔ IsLike (b ∷ next ∷ pattern) text
escaped_by b next pattern text true is behind all =
    let e : b ≡ 92 = (Decides-eqb b 92).0 is in
    subst (λ (n : ℕ). IsTrue (is_like (n ∷ next ∷ pattern) text) ↔ IsLike (n ∷ next ∷ pattern) text) (sym e) (byte_first pattern (is_like pattern) behind next text)
escaped_by b next pattern text false is behind all =
    subst (λ (escape : Bool). IsTrue (cond escape (passes_behind next (is_like pattern) text) (stands_first b (is_like (next ∷ pattern)) text)) ↔ StandFor (cond escape (parts_of (92 ∷ next ∷ pattern)) (part_of b ∷ parts_of (next ∷ pattern))) text)
    (sym is) (first_tells (next ∷ pattern) (is_like (next ∷ pattern)) all b text)

-- the test says whether the text is like the pattern
pub like_tells : (pattern text : List ℕ) → IsTrue (is_like pattern text) ↔ IsLike pattern text
like_tells [] text = empty_tells text
like_tells (b ∷ []) text = first_tells [] is_empty empty_tells b text
like_tells (b ∷ next ∷ pattern) text = escaped_by b next pattern text (eqb b 92) refl (like_tells pattern) (like_tells (next ∷ pattern))

-- two tests of one fact
pub same_test : (a b : Bool) (P : Type 0) → (IsTrue a ↔ P) → (IsTrue b ↔ P) → a ≡ b
same_test true true P first second = refl
same_test false false P first second = refl
same_test true false P first second = sym (second.1 (first.0 refl))
same_test false true P first second = first.1 (second.0 refl)
