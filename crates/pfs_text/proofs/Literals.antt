-- Where the bytes before the first `%`, `_` or `\` of a pattern don't stand, no text like the pattern begins.
use Rattle.std.proofs.Common.{◌≡◌, ℕ, ◌+◌, ◌*◌, ◌-◌, ◌<◌, ◌≤◌, ◌↔◌, ◌⊎◌, inl, inr, zero, suc, Bool, true, false, cond, eqb, List, [], ◌∷◌, length, take, drop, Option, None, Some, refl, sym, ap, ◌∙◌, subst, arith, length-drop, length-take, suc-mul}
use Rattle.std.specs.List.{prefix_len}
use Rattle.std.proofs.lemmas.Bool.{false≢true}
use Rattle.std.proofs.lemmas.List.Folds.{length-prefix_len}
use Rattle.std.proofs.Math.Nat.{mul-le-mul_right}
use Rattle.memchr.specs.Find.{FindsNeedle, OccursAt}
use Rattle.memchr.proofs.lemmas.MatchLemmas.{OccursAt-from_part}
use Rattle.pfs_text.specs.declared.pattern.Part.{Part}
use Rattle.pfs_text.specs.declared.pattern.Part.TheVariants.{Byte}
use Rattle.pfs_text.specs.declared.pattern.Scan.{Scan}
use Rattle.pfs_text.specs.Patterns.{StandFor, part_of, parts_of}
use Rattle.pfs_text.specs.ScanSteps.{FitsAt, MayBeginAt, MayFit, Stands, is_literal, steps_left}
use Rattle.pfs_text.proofs.Scans.{nearer}

-- the bytes of the pattern before the first that stands for another
abbrev pub front_of : List ℕ → List ℕ
front_of pattern = take (prefix_len is_literal pattern) pattern

taken_short : (n : ℕ) (xs : List ℕ) → length (take n xs) ≤ length xs
taken_short n xs = omega (arith, length-take n xs)

drop_none : (n : ℕ) → drop {A = ℕ} n [] ≡ []
drop_none zero = refl
drop_none (suc n) = refl

le_or : (a b : ℕ) → (a ≤ b) ⊎ (b ≤ a)
le_or a b = grind arith

less_or : (a b : ℕ) → (a < b) ⊎ (b ≤ a)
less_or a b = grind arith

same_or : (a b : ℕ) → b ≤ a → (a ≡ b) ⊎ (b < a)
same_or a b le = grind arith

-- products that fall
falls : (d e n p q : ℕ) → e < d → q ≤ n → e * (n + 1) + q < d * (n + 1) + p
falls d e n p q lt le =
    let more : suc e * (n + 1) ≤ d * (n + 1) = mul-le-mul_right (n + 1) lt in
    omega (arith, suc-mul e (n + 1))

-- a literal byte is a part of its own
part_by : (b : ℕ) (any one : Bool) → eqb b 37 ≡ any → eqb b 95 ≡ one → is_literal b ≡ true → part_of b ≡ Byte b
part_by b true one is_any is_one literal = let no : false ≡ true = rw is_any at literal in absurd (false≢true no)
part_by b false true is_any is_one literal = let no : false ≡ true = rw (is_any, is_one) at literal in absurd (false≢true no)
part_by b false false is_any is_one literal = rw (is_any, is_one) refl

no_escape_by : (b : ℕ) (any one escape : Bool) → eqb b 37 ≡ any → eqb b 95 ≡ one → eqb b 92 ≡ escape → is_literal b ≡ true → eqb b 92 ≡ false
no_escape_by b true one escape is_any is_one is literal = let no : false ≡ true = rw is_any at literal in absurd (false≢true no)
no_escape_by b false true escape is_any is_one is literal = let no : false ≡ true = rw (is_any, is_one) at literal in absurd (false≢true no)
no_escape_by b false false true is_any is_one is literal = let no : false ≡ true = rw (is_any, is_one, is) at literal in absurd (false≢true no)
no_escape_by b false false false is_any is_one is literal = is

literal_part : (b : ℕ) (rest : List ℕ) → is_literal b ≡ true → parts_of (b ∷ rest) ≡ Byte b ∷ parts_of rest
literal_part b [] literal = ap (λ (part : Part). part ∷ []) (part_by b (eqb b 37) (eqb b 95) refl refl literal)
literal_part b (next ∷ rest) literal =
    ap (λ (escape : Bool). cond escape (Byte next ∷ parts_of rest) (part_of b ∷ parts_of (next ∷ rest))) (no_escape_by b (eqb b 37) (eqb b 95) (eqb b 92) refl refl refl literal)
    ∙ ap (λ (part : Part). part ∷ parts_of (next ∷ rest)) (part_by b (eqb b 37) (eqb b 95) refl refl literal)

-- a text like the pattern begins with the pattern's literal bytes
front_by : (b : ℕ) (rest text : List ℕ) (literal : Bool) → is_literal b ≡ literal
    → ((more : List ℕ) → StandFor (parts_of rest) more → take (prefix_len is_literal rest) more ≡ front_of rest)
    → StandFor (parts_of (b ∷ rest)) text → take (cond literal (1 + prefix_len is_literal rest) 0) text ≡ take (cond literal (1 + prefix_len is_literal rest) 0) (b ∷ rest)
front_by b rest text false is later fits = refl
front_by b rest [] true is later fits = absurd (subst (λ ps. StandFor ps []) (literal_part b rest is) fits)
front_by b rest (x ∷ text) true is later fits =
    let here = subst (λ ps. StandFor ps (x ∷ text)) (literal_part b rest is) fits in
    ap (λ (n : ℕ). take n (x ∷ text)) (one_more (prefix_len is_literal rest))
    ∙ (ap (λ (y : ℕ). y ∷ take (prefix_len is_literal rest) text) here.0 ∙ ap (λ (ys : List ℕ). b ∷ ys) (later text here.1)
    ∙ ap (λ (n : ℕ). take n (b ∷ rest)) (sym (one_more (prefix_len is_literal rest))))
  where
    one_more : (n : ℕ) → 1 + n ≡ suc n
    one_more n = omega arith

front_stands : (pattern text : List ℕ) → StandFor (parts_of pattern) text → take (prefix_len is_literal pattern) text ≡ front_of pattern
front_stands [] text fits = refl
front_stands (b ∷ rest) text fits = front_by b rest text (is_literal b) refl (front_stands rest) fits

-- so they occur at the place where it begins
front_occurs : (pattern text : List ℕ) (k : ℕ) → k ≤ length text → StandFor (parts_of pattern) (drop k text) → OccursAt text (front_of pattern) k
front_occurs pattern text k within fits =
    let part : take (length (front_of pattern)) (drop k text) ≡ front_of pattern =
    ap (λ (n : ℕ). take n (drop k text)) (length-prefix_len is_literal pattern) ∙ front_stands pattern (drop k text) fits in
    let short : length (front_of pattern) ≤ length (drop k text) =
    subst (λ (xs : List ℕ). length xs ≤ length (drop k text)) part (taken_short (length (front_of pattern)) (drop k text)) in
    OccursAt-from_part text (front_of pattern) k (omega (arith, length-drop k text)) part

-- behind the end of a text stands what stands at its end
at_the_end : (text : List ℕ) (k : ℕ) → length text ≤ k → drop k text ≡ drop (length text) text
at_the_end [] k le = drop_none k
at_the_end (x ∷ text) zero le = absurd (omega arith)
at_the_end (x ∷ text) (suc k) le = at_the_end text k (omega arith)

nowhere : (pattern text : List ℕ) → FindsNeedle text (front_of pattern) 0 None → (k : ℕ) → (k ≤ length text) ⊎ (length text ≤ k) → ¬ StandFor (parts_of pattern) (drop k text)
nowhere pattern text finds k (inl within) fits = finds k (omega arith) (omega arith) (front_occurs pattern text k within fits)
nowhere pattern text finds k (inr behind) fits =
    let end = subst (λ (xs : List ℕ). StandFor (parts_of pattern) xs) (at_the_end text k behind) fits in
    finds (length text) (omega arith) (omega arith) (front_occurs pattern text (length text) (omega arith) end)

-- what a search for them tells
pub begins_at : (pattern text : List ℕ) (found : Option ℕ) → FindsNeedle text (front_of pattern) 0 found → MayBeginAt pattern text found
begins_at pattern text None finds = λ k. nowhere pattern text finds k (le_or k (length text))
begins_at pattern text (Some n) finds = (
  omega (arith, finds.0.high),
  λ k before fits. finds.0.before k (omega arith) before (front_occurs pattern text k (omega (arith, finds.0.high)) fits),
)

module _ (pattern text : List ℕ) (scan : Scan) where
  rest : List ℕ
  rest = drop (scan.start + 1) text

  -- no later start fits
  pub no_later : (¬ FitsAt pattern text scan.place (scan.start + scan.passed)) → MayBeginAt (drop scan.begin pattern) (drop (scan.start + 1) text) None → ¬ MayFit pattern text scan
  no_later stuck none (inl fits) = stuck fits
  no_later stuck none (inr (moves, (k, above, fits))) = none (k - (scan.start + 1)) (nearer pattern text (parts_of (drop scan.begin pattern)) (scan.start + 1) k (omega arith) fits)

  -- the scan at a later start
  abbrev pub from_start : ℕ → Scan
  from_start skipped = record { begin = scan.begin; start = (scan.start + 1) + skipped; place = scan.begin; passed = 0; moves = true }

  later_asks : (skipped : ℕ) → scan.moves ≡ true → (¬ FitsAt pattern text scan.place (scan.start + scan.passed))
      → ((k : ℕ) → k < skipped → ¬ StandFor (parts_of (drop scan.begin pattern)) (drop k (drop (scan.start + 1) text)))
      → MayFit pattern text scan ↔ MayFit pattern text (from_start skipped)
  later_asks skipped moves stuck none = (forth, back)
    where
      at : ℕ
      at = (scan.start + 1) + skipped

      by : (k : ℕ) → FitsAt pattern text scan.begin k → (k ≡ at) ⊎ (at < k) → MayFit pattern text (from_start skipped)
      by k fits (inl same) = inl (subst (λ (n : ℕ). FitsAt pattern text scan.begin n) (let e : k ≡ ((scan.start + 1) + skipped) + 0 = omega arith in e) fits)
      by k fits (inr later) = inr (refl, (k, omega arith, fits))

      forth : MayFit pattern text scan → MayFit pattern text (from_start skipped)
      forth (inl fits) = absurd (stuck fits)
      forth (inr (_, (k, above, fits))) = by k fits (sides k (omega arith) fits (less_or k at))
        where
          sides : (k : ℕ) → scan.start < k → FitsAt pattern text scan.begin k → (k < at) ⊎ (at ≤ k) → (k ≡ at) ⊎ (at < k)
          sides k above fits (inl before) = absurd (none (k - (scan.start + 1)) (omega arith) (nearer pattern text (parts_of (drop scan.begin pattern)) (scan.start + 1) k (omega arith) fits))
          sides k above fits (inr behind) = same_or k at behind

      back : MayFit pattern text (from_start skipped) → MayFit pattern text scan
      back (inl fits) = inr (moves, (at, omega arith, subst (λ (n : ℕ). FitsAt pattern text scan.begin n) (let e : ((scan.start + 1) + skipped) + 0 ≡ at = omega arith in e) fits))
      back (inr (_, (k, above, fits))) = inr (moves, (k, omega arith, fits))

  -- what a step to a later start owes
  pub later_moves : (skipped : ℕ) → Stands pattern text scan → scan.moves ≡ true → scan.start < length text → (¬ FitsAt pattern text scan.place (scan.start + scan.passed))
      → MayBeginAt (drop scan.begin pattern) (drop (scan.start + 1) text) (Some skipped)
      → Stands pattern text (from_start skipped) × (MayFit pattern text scan ↔ MayFit pattern text (from_start skipped)) × (steps_left pattern text (from_start skipped) < steps_left pattern text scan)
  later_moves skipped stands moves within stuck (inside, none) = (
    record {
      ordered = omega arith;
      in_pattern = omega (arith, stands.ordered, stands.in_pattern);
      in_text = omega (arith, length-drop (scan.start + 1) text);
      skips = λ k fits. subst (λ (n : ℕ). FitsAt pattern text scan.begin n) (let e : k ≡ k + 0 = omega arith in e) fits;
    },
    later_asks skipped moves stuck none,
    falls (length text - scan.start) (length text - ((scan.start + 1) + skipped)) (length pattern) (length pattern - scan.place) (length pattern - scan.begin) (omega (arith, length-drop (scan.start + 1) text)) (omega arith),
  )
