-- A quoted text determines its length and the text in it.
use Rattle.std.proofs.Common.{◌≡◌, ◌≢◌, ℕ, ◌⊎◌, inl, inr, List, [], ◌∷◌, ◌++◌, length, sym, subst, ap, ◌∙◌, refl, append_assoc}
use Rattle.std.specs.List.{flat_map}
use Rattle.std.proofs.lemmas.Bool.{cases_eq}
use Rattle.pfs_text.specs.QuotedTexts.{BeginsPlain, IsQuotedFront, QuotesAreExact, doubled, quoted}
use Rattle.pfs_text.proofs.QuoteEnds.{doubled_plain}

-- a doubled text with its closing quote and what follows
abbrev tail_of : List ℕ → List ℕ → List ℕ
tail_of text rest = flat_map doubled text ++ 39 ∷ rest

-- the doubled first byte, by cases
tail_quote : (t : ℕ) (ts rest : List ℕ) → t ≡ 39 → tail_of (t ∷ ts) rest ≡ 39 ∷ 39 ∷ tail_of ts rest
tail_quote t ts rest is = subst (λ u. (doubled u ++ flat_map doubled ts) ++ 39 ∷ rest ≡ 39 ∷ 39 ∷ tail_of ts rest) (sym is) refl

tail_plain : (t : ℕ) (ts rest : List ℕ) → t ≢ 39 → tail_of (t ∷ ts) rest ≡ t ∷ tail_of ts rest
tail_plain t ts rest differs = subst (λ d. (d ++ flat_map doubled ts) ++ 39 ∷ rest ≡ t ∷ tail_of ts rest) (sym (doubled_plain t differs)) refl

-- a closing quote is not read as the front of a longer text
end_is_end : (t : ℕ) (ts rest more : List ℕ) → BeginsPlain rest → 39 ∷ rest ≡ tail_of (t ∷ ts) more → (t ≡ 39) ⊎ (t ≢ 39) → ⊥
end_is_end t ts rest more plain e (inl is) =
    let both : 39 ∷ rest ≡ 39 ∷ 39 ∷ tail_of ts more = e ∙ tail_quote t ts more is in
    let begins : rest ≡ 39 ∷ tail_of ts more = cc in
    subst (λ bs. BeginsPlain bs) begins plain refl
end_is_end t ts rest more plain e (inr differs) =
    let both : 39 ∷ rest ≡ t ∷ tail_of ts more = e ∙ tail_plain t ts more differs in
    let is : 39 ≡ t = cc in
    differs (sym is)

one_tail_by : (t u : ℕ) (ts us rest more : List ℕ) → BeginsPlain rest → BeginsPlain more → tail_of (t ∷ ts) rest ≡ tail_of (u ∷ us) more → (t ≡ 39) ⊎ (t ≢ 39) → (u ≡ 39) ⊎ (u ≢ 39)
    → (tail_of ts rest ≡ tail_of us more → (ts ≡ us) × (rest ≡ more)) → (t ∷ ts ≡ u ∷ us) × (rest ≡ more)
one_tail_by t u ts us rest more plain clear e (inl t_is) (inl u_is) by =
    let both : 39 ∷ 39 ∷ tail_of ts rest ≡ 39 ∷ 39 ∷ tail_of us more = sym (tail_quote t ts rest t_is) ∙ e ∙ tail_quote u us more u_is in
    let rest_is : tail_of ts rest ≡ tail_of us more = cc in
    let same = by rest_is in
    let texts : ts ≡ us = same.0 in
    (cc, same.1)
one_tail_by t u ts us rest more plain clear e (inl t_is) (inr u_not) by =
    let both : 39 ∷ 39 ∷ tail_of ts rest ≡ u ∷ tail_of us more = sym (tail_quote t ts rest t_is) ∙ e ∙ tail_plain u us more u_not in
    let is : 39 ≡ u = cc in
    absurd (u_not (sym is))
one_tail_by t u ts us rest more plain clear e (inr t_not) (inl u_is) by =
    let both : t ∷ tail_of ts rest ≡ 39 ∷ 39 ∷ tail_of us more = sym (tail_plain t ts rest t_not) ∙ e ∙ tail_quote u us more u_is in
    let is : t ≡ 39 = cc in
    absurd (t_not is)
one_tail_by t u ts us rest more plain clear e (inr t_not) (inr u_not) by =
    let both : t ∷ tail_of ts rest ≡ u ∷ tail_of us more = sym (tail_plain t ts rest t_not) ∙ e ∙ tail_plain u us more u_not in
    let first : t ≡ u = cc in
    let rest_is : tail_of ts rest ≡ tail_of us more = cc in
    let same = by rest_is in
    let texts : ts ≡ us = same.0 in
    (cc, same.1)

-- two doubled texts with their ends are alike only where both parts are
one_tail : (a b rest more : List ℕ) → BeginsPlain rest → BeginsPlain more → tail_of a rest ≡ tail_of b more → (a ≡ b) × (rest ≡ more)
one_tail [] [] rest more plain clear e = let is : rest ≡ more = cc in (refl, is)
one_tail [] (u ∷ us) rest more plain clear e = absurd (end_is_end u us rest more plain e (cases_eq u 39))
one_tail (t ∷ ts) [] rest more plain clear e = absurd (end_is_end t ts more rest clear (sym e) (cases_eq t 39))
one_tail (t ∷ ts) (u ∷ us) rest more plain clear e = one_tail_by t u ts us rest more plain clear e (cases_eq t 39) (cases_eq u 39) (one_tail ts us rest more plain clear)

-- the same with the opening quotes
quoted_is : (text rest : List ℕ) → quoted text ++ rest ≡ 39 ∷ tail_of text rest
quoted_is text rest = ap (λ bs. 39 ∷ bs) (append_assoc (flat_map doubled text) (39 ∷ []) rest)

one_text : (a b rest more : List ℕ) → BeginsPlain rest → BeginsPlain more → quoted a ++ rest ≡ quoted b ++ more → (a ≡ b) × (rest ≡ more)
one_text a b rest more plain clear e =
    let both : 39 ∷ tail_of a rest ≡ 39 ∷ tail_of b more = sym (quoted_is a rest) ∙ e ∙ quoted_is b more in
    let tails : tail_of a rest ≡ tail_of b more = cc in
    one_tail a b rest more plain clear tails

one_length : (bytes : List ℕ) (m n : ℕ) → IsQuotedFront bytes m → IsQuotedFront bytes n → m ≡ n
one_length bytes m n (a, rest, split, size, plain) (b, more, cut, long, clear) =
    let same = one_text a b rest more plain clear (sym split ∙ cut) in
    size ∙ ap (λ t. length (quoted t)) same.0 ∙ sym long

pub quotes_are_exact : QuotesAreExact
quotes_are_exact = record {
  found = λ text rest plain. (text, rest, refl, refl, plain);
  one_length = one_length;
  one_text = one_text;
}
