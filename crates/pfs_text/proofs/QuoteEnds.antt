-- Where a quoted text ends: what is left of it after its opening quote.
use Rattle.std.proofs.Common.{◌≡◌, ◌≢◌, ℕ, ◌+◌, ◌<◌, ◌≤◌, ◌⊎◌, inl, inr, List, [], ◌∷◌, ◌++◌, length, drop, get_or, sym, subst, ap, ◌∙◌, refl, suc, append_assoc, length-append, arith}
use Rattle.std.specs.List.{flat_map}
use Rattle.std.proofs.lemmas.Bool.{cases_eq, ne_eqb}
use Rattle.std.proofs.lemmas.List.{drop_more, drop_all}
use Rattle.pfs_text.specs.QuotedTexts.{BeginsPlain, IsQuotedFront, doubled}

-- the first n bytes are the doubled text and the closing quote
pub record Closes (bytes : List ℕ) (n : ℕ) : Type 0 where
  pub text : List ℕ
  pub rest : List ℕ
  pub split : bytes ≡ flat_map doubled text ++ 39 ∷ rest
  pub size : n ≡ length (flat_map doubled text) + 1
  pub plain : BeginsPlain rest

-- a quoted text is an opening quote and what closes it
pub front_from_closes : (bytes : List ℕ) (n : ℕ) → Closes bytes n → IsQuotedFront (39 ∷ bytes) (suc n)
front_from_closes bytes n closes = (
  closes.text,
  closes.rest,
  ap (λ bs. 39 ∷ bs) (closes.split ∙ sym (append_assoc (flat_map doubled closes.text) (39 ∷ []) closes.rest)),
  omega (arith, closes.size, length-append (flat_map doubled closes.text) (39 ∷ [])),
  closes.plain,
)

pub closes_from_front : (b : ℕ) (bytes : List ℕ) (n : ℕ) → IsQuotedFront (b ∷ bytes) n → (b ≡ 39) × ((m : ℕ) × (n ≡ suc m) × Closes bytes m)
closes_from_front b bytes n (text, rest, split, size, plain) =
    let rest_is : bytes ≡ (flat_map doubled text ++ 39 ∷ []) ++ rest = cc in
    let first : b ≡ 39 = cc in (
      first,
      (
        length (flat_map doubled text) + 1,
        omega (arith, size, length-append (flat_map doubled text) (39 ∷ [])),
        record { text = text; rest = rest; split = rest_is ∙ append_assoc (flat_map doubled text) (39 ∷ []) rest; size = refl; plain = plain },
      ),
    )

-- nothing closes the empty list
empty_is_no_end : (front rest : List ℕ) → [] ≡ front ++ 39 ∷ rest → ⊥
empty_is_no_end [] rest e = cc
empty_is_no_end (b ∷ front) rest e = cc

pub closes_none : (n : ℕ) → ¬ Closes [] n
closes_none n closes = empty_is_no_end (flat_map doubled closes.text) closes.rest closes.split

pub doubled_plain : (b : ℕ) → b ≢ 39 → doubled b ≡ b ∷ []
doubled_plain b differs = rw (ne_eqb b 39 differs) refl

-- a byte that is no quote
pub closes_more : (b : ℕ) (bytes : List ℕ) (n : ℕ) → b ≢ 39 → Closes bytes n → Closes (b ∷ bytes) (n + 1)
closes_more b bytes n differs closes = record {
  text = b ∷ closes.text;
  rest = closes.rest;
  split = subst (λ d. b ∷ bytes ≡ (d ++ flat_map doubled closes.text) ++ 39 ∷ closes.rest) (sym (doubled_plain b differs)) (ap (λ bs. b ∷ bs) closes.split);
  size = subst (λ d. n + 1 ≡ length (d ++ flat_map doubled closes.text) + 1) (sym (doubled_plain b differs)) (omega (arith, closes.size));
  plain = closes.plain;
}

less_by : (b : ℕ) (bytes : List ℕ) (n : ℕ) (text rest : List ℕ) → b ≢ 39 → b ∷ bytes ≡ flat_map doubled text ++ 39 ∷ rest → n ≡ length (flat_map doubled text) + 1 → BeginsPlain rest
    → (t : ℕ) (ts : List ℕ) → text ≡ t ∷ ts → (t ≡ 39) ⊎ (t ≢ 39) → (m : ℕ) × (n ≡ m + 1) × Closes bytes m
less_by b bytes n text rest differs split size plain t ts is (inl quote) =
    let here : b ∷ bytes ≡ (doubled 39 ++ flat_map doubled ts) ++ 39 ∷ rest = subst (λ u. b ∷ bytes ≡ (doubled u ++ flat_map doubled ts) ++ 39 ∷ rest) quote (subst (λ u. b ∷ bytes ≡ flat_map doubled u ++ 39 ∷ rest) is split) in
    absurd (differs cc)
less_by b bytes n text rest differs split size plain t ts is (inr other) =
    let here : b ∷ bytes ≡ t ∷ (flat_map doubled ts ++ 39 ∷ rest) = subst (λ d. b ∷ bytes ≡ (d ++ flat_map doubled ts) ++ 39 ∷ rest) (doubled_plain t other) (subst (λ u. b ∷ bytes ≡ flat_map doubled u ++ 39 ∷ rest) is split) in
    let long : n ≡ length (t ∷ flat_map doubled ts) + 1 = subst (λ d. n ≡ length (d ++ flat_map doubled ts) + 1) (doubled_plain t other) (subst (λ u. n ≡ length (flat_map doubled u) + 1) is size) in
    (length (flat_map doubled ts) + 1, omega (arith, long), record { text = ts; rest = rest; split = cc; size = refl; plain = plain })

less_from : (b : ℕ) (bytes : List ℕ) (n : ℕ) (text rest : List ℕ) → b ≢ 39 → b ∷ bytes ≡ flat_map doubled text ++ 39 ∷ rest → n ≡ length (flat_map doubled text) + 1 → BeginsPlain rest → (m : ℕ) × (n ≡ m + 1) × Closes bytes m
less_from b bytes n [] rest differs split size plain = absurd (differs cc)
less_from b bytes n (t ∷ ts) rest differs split size plain = less_by b bytes n (t ∷ ts) rest differs split size plain t ts refl (cases_eq t 39)

pub closes_less : (b : ℕ) (bytes : List ℕ) (n : ℕ) → b ≢ 39 → Closes (b ∷ bytes) n → (m : ℕ) × (n ≡ m + 1) × Closes bytes m
closes_less b bytes n differs closes = less_from b bytes n closes.text closes.rest differs closes.split closes.size closes.plain

-- a doubled quote
pub closes_double : (bytes : List ℕ) (n : ℕ) → Closes bytes n → Closes (39 ∷ 39 ∷ bytes) (n + 2)
closes_double bytes n closes = record {
  text = 39 ∷ closes.text;
  rest = closes.rest;
  split = ap (λ bs. 39 ∷ 39 ∷ bs) closes.split;
  size = omega (arith, closes.size);
  plain = closes.plain;
}

undouble_by : (bytes : List ℕ) (n t : ℕ) (ts rest : List ℕ) → (39 ∷ 39 ∷ bytes) ≡ (doubled t ++ flat_map doubled ts) ++ 39 ∷ rest → n ≡ length (doubled t ++ flat_map doubled ts) + 1 → BeginsPlain rest
    → (t ≡ 39) ⊎ (t ≢ 39) → (m : ℕ) × (n ≡ m + 2) × Closes bytes m
undouble_by bytes n t ts rest split size plain (inl quote) =
    let here : (39 ∷ 39 ∷ bytes) ≡ 39 ∷ 39 ∷ (flat_map doubled ts ++ 39 ∷ rest) = subst (λ u. (39 ∷ 39 ∷ bytes) ≡ (doubled u ++ flat_map doubled ts) ++ 39 ∷ rest) quote split in
    let long : n ≡ length (39 ∷ 39 ∷ flat_map doubled ts) + 1 = subst (λ u. n ≡ length (doubled u ++ flat_map doubled ts) + 1) quote size in
    (length (flat_map doubled ts) + 1, omega (arith, long), record { text = ts; rest = rest; split = cc; size = refl; plain = plain })
undouble_by bytes n t ts rest split size plain (inr other) =
    let here : (39 ∷ 39 ∷ bytes) ≡ t ∷ (flat_map doubled ts ++ 39 ∷ rest) = subst (λ d. (39 ∷ 39 ∷ bytes) ≡ (d ++ flat_map doubled ts) ++ 39 ∷ rest) (doubled_plain t other) split in
    let is : 39 ≡ t = cc in
    absurd (other (sym is))

undouble_from : (bytes : List ℕ) (n : ℕ) (text rest : List ℕ) → (39 ∷ 39 ∷ bytes) ≡ flat_map doubled text ++ 39 ∷ rest → n ≡ length (flat_map doubled text) + 1 → BeginsPlain rest → (m : ℕ) × (n ≡ m + 2) × Closes bytes m
undouble_from bytes n [] rest split size plain =
    let is : rest ≡ 39 ∷ bytes = cc in
    absurd (subst (λ bs. BeginsPlain bs) is plain refl)
undouble_from bytes n (t ∷ ts) rest split size plain = undouble_by bytes n t ts rest split size plain (cases_eq t 39)

pub closes_undouble : (bytes : List ℕ) (n : ℕ) → Closes (39 ∷ 39 ∷ bytes) n → (m : ℕ) × (n ≡ m + 2) × Closes bytes m
closes_undouble bytes n closes = undouble_from bytes n closes.text closes.rest closes.split closes.size closes.plain

-- the closing quote
pub closes_here : (rest : List ℕ) → BeginsPlain rest → Closes (39 ∷ rest) 1
closes_here rest plain = record { text = []; rest = rest; split = refl; size = refl; plain = plain }

-- a front is quoted exactly where what is left from a place on closes it
pub record Scanned (bytes : List ℕ) (at : ℕ) : Type 0 where
  pub sound : (m : ℕ) → Closes (drop at bytes) m → IsQuotedFront bytes (at + m)
  pub complete : (n : ℕ) → IsQuotedFront bytes n → (m : ℕ) × (n ≡ at + m) × Closes (drop at bytes) m

pub scanned_first : (bytes : List ℕ) → 0 < length bytes → get_or bytes 0 0 ≡ 39 → Scanned bytes 1
scanned_first [] some first = absurd (omega arith)
scanned_first (b ∷ bytes) some first = record {
  sound = λ m closes. subst (λ b. IsQuotedFront (b ∷ bytes) (1 + m)) (sym first) (subst (λ k. IsQuotedFront (39 ∷ bytes) k) (let e : suc m ≡ 1 + m = omega arith in e) (front_from_closes bytes m closes));
  complete = λ n front. let found = (closes_from_front b bytes n front).1 in (found.0, omega (arith, found.1), found.2);
}

module _ (bytes : List ℕ) (at : ℕ) (scanned : Scanned bytes at) where
  pub scanned_more : at < length bytes → get_or bytes at 0 ≢ 39 → Scanned bytes (at + 1)
  scanned_more within differs =
      let here = drop_more bytes at 0 within in
      record {
        sound = λ m closes. subst (λ k. IsQuotedFront bytes k) (let e : at + (m + 1) ≡ (at + 1) + m = omega arith in e)
            (scanned.sound (m + 1) (subst (λ bs. Closes bs (m + 1)) (sym here) (closes_more (get_or bytes at 0) (drop (at + 1) bytes) m differs closes)));
        complete = λ n front.
            let found = scanned.complete n front in
            let less = closes_less (get_or bytes at 0) (drop (at + 1) bytes) found.0 differs (subst (λ bs. Closes bs found.0) here found.2) in
            (less.0, omega (arith, found.1, less.1), less.2);
      }

  pub scanned_double : at + 1 < length bytes → get_or bytes at 0 ≡ 39 → get_or bytes (at + 1) 0 ≡ 39 → Scanned bytes (at + 2)
  scanned_double within first second =
      let within_first : at < length bytes = omega arith in
      let next : (at + 1) + 1 ≡ at + 2 = omega arith in
      let here : drop at bytes ≡ 39 ∷ 39 ∷ drop (at + 2) bytes =
      drop_more bytes at 0 within_first ∙ ap (λ b. b ∷ drop (at + 1) bytes) first ∙ ap (λ bs. 39 ∷ bs) (drop_more bytes (at + 1) 0 within ∙ ap (λ b. b ∷ drop ((at + 1) + 1) bytes) second ∙ ap (λ k. 39 ∷ drop k bytes) next) in
      record {
        sound = λ m closes. subst (λ k. IsQuotedFront bytes k) (let e : at + (m + 2) ≡ (at + 2) + m = omega arith in e)
            (scanned.sound (m + 2) (subst (λ bs. Closes bs (m + 2)) (sym here) (closes_double (drop (at + 2) bytes) m closes)));
        complete = λ n front.
            let found = scanned.complete n front in
            let less = closes_undouble (drop (at + 2) bytes) found.0 (subst (λ bs. Closes bs found.0) here found.2) in
            (less.0, omega (arith, found.1, less.1), less.2);
      }

  pub scanned_end : at < length bytes → get_or bytes at 0 ≡ 39 → BeginsPlain (drop (at + 1) bytes) → IsQuotedFront bytes (at + 1)
  scanned_end within first plain =
      scanned.sound 1 (subst (λ bs. Closes bs 1) (sym (drop_more bytes at 0 within ∙ ap (λ b. b ∷ drop (at + 1) bytes) first)) (closes_here (drop (at + 1) bytes) plain))

  -- nothing is left
  pub scanned_past : length bytes ≤ at → (n : ℕ) → ¬ IsQuotedFront bytes n
  scanned_past past n front =
      let found = scanned.complete n front in
      closes_none found.0 (subst (λ bs. Closes bs found.0) (drop_all at bytes past) found.2)

-- what follows the closing quote
pub plain_past : (bytes : List ℕ) (at : ℕ) → length bytes ≤ at → BeginsPlain (drop at bytes)
plain_past bytes at past = subst (λ bs. BeginsPlain bs) (sym (drop_all at bytes past)) tt

pub plain_at : (bytes : List ℕ) (at : ℕ) → at < length bytes → get_or bytes at 0 ≢ 39 → BeginsPlain (drop at bytes)
plain_at bytes at within differs = subst (λ bs. BeginsPlain bs) (sym (drop_more bytes at 0 within)) differs
