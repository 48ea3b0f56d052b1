-- Quoted texts, as the lexer reads them.
use Rattle.std.proofs.Common.{◌≡◌, ℕ, Bool, true, false, cond, eqb, List, [], ◌∷◌, ◌++◌, Option, Some, None, refl, sym, ap, subst, ◌∙◌, append_assoc, inl, inr}
use Rattle.std.specs.List.{flat_map}
use Rattle.std.proofs.lemmas.Bool.{eqb-true, cases_Bool}
use Rattle.std.proofs.lemmas.List.{append-nil}
use Rattle.std.proofs.lemmas.Option.{some_pair_parts}
use Rattle.pfs_text.specs.QuotedTexts.{doubled}
use Rattle.pfs_sql.specs.declared.token.Token.TheVariants.{Quoted}
use Rattle.pfs_sql.specs.Tokens.{EndsAt}
use Rattle.pfs_sql.specs.TokenReaders.{◌>>=◌, choose}
use Rattle.pfs_sql.specs.TextCuts.{inner_of, inside_of, with_text, quoted_of, closed_of}

-- the closing `'`
abbrev pub closing : List ℕ → Option (List ℕ × List ℕ)
closing [] = None
closing (b ∷ bytes) = cond (eqb b 39) (Some ([], bytes)) None

-- a quoted text goes on with its next byte, or ends
pub inside_steps : (bytes : List ℕ) → inside_of bytes ≡ choose (inner_of bytes) (λ x. with_text (x.0 ∷ []) (inside_of x.1)) (closing bytes)
unfolding inner_of inside_of
inside_steps [] = refl
inside_steps (b ∷ []) = elim (cases_Bool (eqb b 39)) [ inl t ↦ rw t refl | inr t ↦ rw t refl ]
inside_steps (b ∷ c ∷ bytes) =
    elim (cases_Bool (eqb b 39)) [
      | inl t ↦ elim (cases_Bool (eqb c 39)) [ inl u ↦ rw (t, u) refl | inr u ↦ rw (t, u) refl ]
      | inr t ↦ rw t refl
    ]

inside_plain : (b : ℕ) (bytes : List ℕ) → eqb b 39 ≡ false → inside_of (b ∷ bytes) ≡ with_text (b ∷ []) (inside_of bytes)
unfolding inside_of
inside_plain b [] t = rw t refl
inside_plain b (c ∷ bytes) t = rw t refl

inside_double : (b c : ℕ) (bytes : List ℕ) → eqb b 39 ≡ true → eqb c 39 ≡ true → inside_of (b ∷ c ∷ bytes) ≡ with_text (39 ∷ []) (inside_of bytes)
unfolding inside_of
inside_double b c bytes t u = rw (t, u) refl

inside_close : (b c : ℕ) (bytes : List ℕ) → eqb b 39 ≡ true → eqb c 39 ≡ false → inside_of (b ∷ c ∷ bytes) ≡ Some ([], c ∷ bytes)
unfolding inside_of
inside_close b c bytes t u = rw (t, u) refl

text_front : (b : ℕ) (r : Option (List ℕ × List ℕ)) (text rest : List ℕ) → with_text (b ∷ []) r ≡ Some (text, rest) → (more : List ℕ) × (r ≡ Some (more, rest)) × (text ≡ b ∷ more)
text_front b (Some y) text rest e =
    let p = some_pair_parts (b ∷ y.0) text y.1 rest e in
    (y.0, ap (λ (r : List ℕ). Some (y.0, r)) p.1, sym p.0)
text_front b None text rest e = absurd cc

-- what stands between the quotes
abbrev pub body : List ℕ → List ℕ
body text = flat_map doubled text ++ 39 ∷ []

body_plain : (b : ℕ) (text : List ℕ) → eqb b 39 ≡ false → body (b ∷ text) ≡ b ∷ body text
body_plain b text t = rw t refl

pub inside_takes : (bytes text rest : List ℕ) → inside_of bytes ≡ Some (text, rest) → (bytes ≡ body text ++ rest) × EndsAt (Quoted text) rest
unfolding inside_of
inside_takes [] text rest e = absurd cc
inside_takes (b ∷ []) text rest e =
    elim (cases_Bool (eqb b 39)) [
      | inl t ↦
          let p = some_pair_parts [] text [] rest (rw t at e) in
          subst (λ (x : List ℕ). (b ∷ [] ≡ body x ++ rest) × EndsAt (Quoted x) rest) p.0
          (subst (λ (r : List ℕ). (b ∷ [] ≡ body [] ++ r) × EndsAt (Quoted []) r) p.1 (ap (λ (k : ℕ). k ∷ []) (eqb-true b 39 t), tt))
      | inr t ↦ let f = rw t at e in absurd cc
    ]
inside_takes (b ∷ c ∷ bytes) text rest e =
    elim (cases_Bool (eqb b 39)) [
      | inl t ↦ elim (cases_Bool (eqb c 39)) [
        | inl u ↦
            let w = text_front 39 (inside_of bytes) text rest (sym (inside_double b c bytes t u) ∙ e) in
            let ih = inside_takes bytes w.0 rest w.1 in
            let here : b ∷ c ∷ bytes ≡ body (39 ∷ w.0) ++ rest =
            ap (λ (k : ℕ). k ∷ c ∷ bytes) (eqb-true b 39 t) ∙ ap (λ (k : ℕ). 39 ∷ k ∷ bytes) (eqb-true c 39 u) ∙ ap (λ (l : List ℕ). 39 ∷ 39 ∷ l) ih.0 in
            subst (λ (x : List ℕ). (b ∷ c ∷ bytes ≡ body x ++ rest) × EndsAt (Quoted x) rest) (sym w.2) (here, ih.1)
        | inr u ↦
            let p = some_pair_parts [] text (c ∷ bytes) rest (sym (inside_close b c bytes t u) ∙ e) in
            subst (λ (x : List ℕ). (b ∷ c ∷ bytes ≡ body x ++ rest) × EndsAt (Quoted x) rest) p.0
            (subst (λ (r : List ℕ). (b ∷ c ∷ bytes ≡ body [] ++ r) × EndsAt (Quoted []) r) p.1 (ap (λ (k : ℕ). k ∷ c ∷ bytes) (eqb-true b 39 t), u))
      ]
      | inr t ↦
          let w = text_front b (inside_of (c ∷ bytes)) text rest (sym (inside_plain b (c ∷ bytes) t) ∙ e) in
          let ih = inside_takes (c ∷ bytes) w.0 rest w.1 in
          let here : b ∷ c ∷ bytes ≡ body (b ∷ w.0) ++ rest = rw (body_plain b w.0 t) (ap (λ (l : List ℕ). b ∷ l) ih.0) in
          subst (λ (x : List ℕ). (b ∷ c ∷ bytes ≡ body x ++ rest) × EndsAt (Quoted x) rest) (sym w.2) (here, ih.1)
    ]

closes : (rest : List ℕ) → EndsAt (Quoted []) rest → inside_of (39 ∷ rest) ≡ Some ([], rest)
unfolding inside_of
closes [] h = refl
closes (c ∷ rest) h = rw h refl

pub inside_again : (text rest : List ℕ) → EndsAt (Quoted []) rest → inside_of (body text ++ rest) ≡ Some (text, rest)
inside_again [] rest h = closes rest h
inside_again (b ∷ text) rest h =
    elim (cases_Bool (eqb b 39)) [
      | inl t ↦
          let b-is = eqb-true b 39 t in
          let one : inside_of (body (39 ∷ text) ++ rest) ≡ Some (39 ∷ text, rest) = inside_double 39 39 (body text ++ rest) refl refl ∙ rw (inside_again text rest h) refl in
          subst (λ (k : ℕ). inside_of (body (k ∷ text) ++ rest) ≡ Some (k ∷ text, rest)) (sym b-is) one
      | inr t ↦ rw (body_plain b text t) (inside_plain b (body text ++ rest) t ∙ rw (inside_again text rest h) refl)
    ]

front_more : (text : List ℕ) (b : ℕ) (r : Option (List ℕ × List ℕ)) → with_text text (with_text (b ∷ []) r) ≡ with_text (text ++ b ∷ []) r
front_more text b None = refl
front_more text b (Some y) = ap (λ (x : List ℕ). Some (x, y.1)) (sym (append_assoc text (b ∷ []) y.0))

-- one byte more was read
pub quoted_more : (text rest : List ℕ) (b : ℕ) (more : List ℕ) (total : Option (List ℕ × List ℕ)) → with_text text (inside_of rest) ≡ total → inner_of rest ≡ Some (b, more) → with_text (text ++ b ∷ []) (inside_of more) ≡ total
quoted_more text rest b more total so_far e =
    let one : inside_of rest ≡ with_text (b ∷ []) (inside_of more) = inside_steps rest ∙ rw e refl in
    sym (front_more text b (inside_of more)) ∙ ap (with_text text) (sym one) ∙ so_far

closed : (text rest : List ℕ) → (with_text text (closing rest) >>= λ x. Some (Quoted x.0, x.1)) ≡ closed_of text rest
closed text [] = refl
closed text (b ∷ rest) =
    elim (cases_Bool (eqb b 39)) [
      | inl t ↦ rw (t, append-nil text) refl
      | inr t ↦ rw t refl
    ]

-- no byte is left inside
pub quoted_all : (text rest bytes : List ℕ) → with_text text (inside_of rest) ≡ inside_of bytes → inner_of rest ≡ None → quoted_of bytes ≡ closed_of text rest
quoted_all text rest bytes so_far e =
    let one : inside_of rest ≡ closing rest = inside_steps rest ∙ rw e refl in
    let same : inside_of bytes ≡ with_text text (closing rest) = sym so_far ∙ ap (with_text text) one in
    ap (λ (r : Option (List ℕ × List ℕ)). r >>= λ x. Some (Quoted x.0, x.1)) same ∙ closed text rest
