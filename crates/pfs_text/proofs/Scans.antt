-- Each step of a scan keeps the question whether the text is like the pattern.
use Rattle.std.proofs.Common.{◌≡◌, ℕ, ◌+◌, ◌*◌, ◌-◌, ◌<◌, ◌≤◌, ◌↔◌, inl, inr, zero, suc, true, List, [], ◌∷◌, length, drop, sym, subst, ap, ◌∙◌, refl, arith}
use Rattle.std.proofs.lemmas.List.{drop_more, drop-drop}
use Rattle.std.proofs.Math.Nat.{mul-le-mul_right}
use Rattle.pfs_text.specs.declared.pattern.Part.{Part}
use Rattle.pfs_text.specs.declared.pattern.Part.TheVariants.{AnyBytes, OneByte, Byte}
use Rattle.pfs_text.specs.declared.pattern.Scan.{Scan}
use Rattle.pfs_text.specs.Patterns.{StandFor, parts_of}
use Rattle.pfs_text.specs.ScanSteps.{FitsAt, MayFit, Stands, StandsFirst, steps_left}

-- a part that is no `%` takes one byte
rest_from_stand_for : (part : Part) (parts : List Part) (text : List ℕ) → StandsFirst part text → StandFor (part ∷ parts) text → StandFor parts (drop 1 text)
rest_from_stand_for AnyBytes parts text first fits = absurd first
rest_from_stand_for OneByte parts [] first fits = absurd first
rest_from_stand_for OneByte parts (x ∷ text) first fits = fits
rest_from_stand_for (Byte b) parts [] first fits = absurd first
rest_from_stand_for (Byte b) parts (x ∷ text) first fits = fits.1

stand_for_from_rest : (part : Part) (parts : List Part) (text : List ℕ) → StandsFirst part text → StandFor parts (drop 1 text) → StandFor (part ∷ parts) text
stand_for_from_rest AnyBytes parts text first fits = absurd first
stand_for_from_rest OneByte parts [] first fits = absurd first
stand_for_from_rest OneByte parts (x ∷ text) first fits = fits
stand_for_from_rest (Byte b) parts [] first fits = absurd first
stand_for_from_rest (Byte b) parts (x ∷ text) first fits = (sym first, fits)

-- where such parts stand for a text, the first stands for its first byte
abbrev pub IsPlain : Part → Type 0
IsPlain AnyBytes = ⊥
IsPlain OneByte = Unit {0}
IsPlain (Byte b) = Unit {0}

first_from_stand_for : (part : Part) (parts : List Part) (text : List ℕ) → IsPlain part → StandFor (part ∷ parts) text → StandsFirst part text
first_from_stand_for AnyBytes parts text plain fits = absurd plain
first_from_stand_for OneByte parts [] plain fits = fits
first_from_stand_for OneByte parts (x ∷ text) plain fits = tt
first_from_stand_for (Byte b) parts [] plain fits = fits
first_from_stand_for (Byte b) parts (x ∷ text) plain fits = sym fits.0

plain_from_first : (part : Part) (text : List ℕ) → StandsFirst part text → IsPlain part
plain_from_first AnyBytes text first = first
plain_from_first OneByte text first = tt
plain_from_first (Byte b) text first = tt

-- products that fall
falls_at_any : (d e n p q : ℕ) → e ≤ d → q < p → e * (n + 1) + q < d * (n + 1) + p
falls_at_any d e n p q le lt = omega (arith, mul-le-mul_right (n + 1) le)

module _ (pattern text : List ℕ) where
  -- after n bytes more
  further : (parts : List Part) (n at : ℕ) → StandFor parts (drop n (drop at text)) → StandFor parts (drop (at + n) text)
  further parts n at fits = subst (λ xs. StandFor parts xs) (drop-drop n at text) fits

  pub nearer : (parts : List Part) (at k : ℕ) → at ≤ k → StandFor parts (drop k text) → StandFor parts (drop (k - at) (drop at text))
  nearer parts at k le fits =
      let sum : at + (k - at) ≡ k = omega arith in
      subst (λ xs. StandFor parts xs) (sym (drop-drop (k - at) at text ∙ ap (λ m. drop m text) sum)) fits

  -- the scan at a `%`
  abbrev pub from_any : Scan → ℕ → Scan
  from_any scan after = record { begin = after; start = scan.start + scan.passed; place = after; passed = 0; moves = true }

  any_stands : (scan : Scan) (after : ℕ) → Stands pattern text scan → after ≤ length pattern → Stands pattern text (from_any scan after)
  any_stands scan after stands inside = record {
    ordered = omega arith;
    in_pattern = inside;
    in_text = omega (arith, stands.in_text);
    skips = λ k fits. subst (λ m. FitsAt pattern text after m) (let e : k ≡ k + 0 = omega arith in e) fits;
  }

  any_asks : (scan : Scan) (after : ℕ) → Stands pattern text scan → parts_of (drop scan.place pattern) ≡ AnyBytes ∷ parts_of (drop after pattern) → MayFit pattern text scan ↔ MayFit pattern text (from_any scan after)
  any_asks scan after stands is = (forth, back)
    where
      parts : List Part
      parts = parts_of (drop after pattern)

      at : ℕ
      at = scan.start + scan.passed

      step : (n : ℕ) → StandFor parts (drop n (drop at text)) → MayFit pattern text (from_any scan after)
      step zero fits = inl (further parts zero at fits)
      step (suc n) fits = inr (refl, (at + suc n, omega arith, further parts (suc n) at fits))

      forth : MayFit pattern text scan → MayFit pattern text (from_any scan after)
      forth (inl fits) = let found = subst (λ ps. StandFor ps (drop at text)) is fits in step found.0 found.1
      forth (inr (moves, (k, above, fits))) =
          let found = subst (λ ps. StandFor ps (drop (k + scan.passed) text)) is (stands.skips k fits) in
          inr (refl, ((k + scan.passed) + found.0, omega arith, further parts found.0 (k + scan.passed) found.1))

      back : MayFit pattern text (from_any scan after) → MayFit pattern text scan
      back (inl fits) = inl (subst (λ ps. StandFor ps (drop at text)) (sym is) (zero, subst (λ xs. StandFor parts xs) (sym (drop-drop zero at text)) fits))
      back (inr (moves, (k, above, fits))) = inl (subst (λ ps. StandFor ps (drop at text)) (sym is) (k - at, nearer parts at k (omega arith) fits))

  -- what a step at a `%` owes
  pub any_moves : (scan : Scan) (after : ℕ) → Stands pattern text scan → scan.place < after → after ≤ length pattern → parts_of (drop scan.place pattern) ≡ AnyBytes ∷ parts_of (drop after pattern)
      → Stands pattern text (from_any scan after) × (MayFit pattern text scan ↔ MayFit pattern text (from_any scan after)) × (steps_left pattern text (from_any scan after) < steps_left pattern text scan)
  any_moves scan after stands past inside is = (
    any_stands scan after stands inside,
    any_asks scan after stands is,
    falls_at_any (length text - scan.start) (length text - (scan.start + scan.passed)) (length pattern) (length pattern - scan.place) (length pattern - after) (omega arith) (omega arith),
  )

  -- the scan after a byte that fits
  abbrev pub from_byte : Scan → ℕ → Scan
  from_byte scan after = record { begin = scan.begin; start = scan.start; place = after; passed = scan.passed + 1; moves = scan.moves }

  rest_fits : (part : Part) (place after at : ℕ) → IsPlain part → parts_of (drop place pattern) ≡ part ∷ parts_of (drop after pattern) → FitsAt pattern text place at → FitsAt pattern text after (at + 1)
  rest_fits part place after at plain is fits =
      let here = subst (λ ps. StandFor ps (drop at text)) is fits in
      further (parts_of (drop after pattern)) 1 at (rest_from_stand_for part (parts_of (drop after pattern)) (drop at text) (first_from_stand_for part (parts_of (drop after pattern)) (drop at text) plain here) here)

  byte_stands : (scan : Scan) (part : Part) (after : ℕ) → Stands pattern text scan → scan.place < after → after ≤ length pattern → scan.start + scan.passed < length text → IsPlain part
      → parts_of (drop scan.place pattern) ≡ part ∷ parts_of (drop after pattern) → Stands pattern text (from_byte scan after)
  byte_stands scan part after stands past inside in_text plain is = record {
    ordered = omega (arith, stands.ordered);
    in_pattern = inside;
    in_text = omega arith;
    skips = λ k fits. subst (λ m. FitsAt pattern text after m) (let e : (k + scan.passed) + 1 ≡ k + (scan.passed + 1) = omega arith in e) (rest_fits part scan.place after (k + scan.passed) plain is (stands.skips k fits));
  }

  byte_asks : (scan : Scan) (part : Part) (after : ℕ) → StandsFirst part (drop (scan.start + scan.passed) text) → parts_of (drop scan.place pattern) ≡ part ∷ parts_of (drop after pattern) → MayFit pattern text scan ↔ MayFit pattern text (from_byte scan after)
  byte_asks scan part after first is = (forth, back)
    where
      at : ℕ
      at = scan.start + scan.passed

      next : at + 1 ≡ scan.start + (scan.passed + 1)
      next = omega arith

      forth : MayFit pattern text scan → MayFit pattern text (from_byte scan after)
      forth (inl fits) = inl (subst (λ m. FitsAt pattern text after m) next (rest_fits part scan.place after at (plain_from_first part (drop at text) first) is fits))
      forth (inr later) = inr later

      back : MayFit pattern text (from_byte scan after) → MayFit pattern text scan
      back (inl fits) =
          let rest = subst (λ xs. StandFor (parts_of (drop after pattern)) xs) (sym (drop-drop 1 at text)) (subst (λ m. FitsAt pattern text after m) (sym next) fits) in
          inl (subst (λ ps. StandFor ps (drop at text)) (sym is) (stand_for_from_rest part (parts_of (drop after pattern)) (drop at text) first rest))
      back (inr later) = inr later

  -- what a step over a byte owes
  pub byte_moves : (scan : Scan) (part : Part) (after : ℕ) → Stands pattern text scan → scan.place < after → after ≤ length pattern → scan.start + scan.passed < length text
      → StandsFirst part (drop (scan.start + scan.passed) text) → parts_of (drop scan.place pattern) ≡ part ∷ parts_of (drop after pattern)
      → Stands pattern text (from_byte scan after) × (MayFit pattern text scan ↔ MayFit pattern text (from_byte scan after)) × (steps_left pattern text (from_byte scan after) < steps_left pattern text scan)
  byte_moves scan part after stands past inside in_text first is = (
    byte_stands scan part after stands past inside in_text (plain_from_first part (drop (scan.start + scan.passed) text) first) is,
    byte_asks scan part after first is,
    omega arith,
  )

  -- the pattern is at its end and the text isn't
  pub stuck_at_end : (place at : ℕ) → parts_of (drop place pattern) ≡ [] → at < length text → ¬ FitsAt pattern text place at
  stuck_at_end place at is within fits = subst (λ xs. StandFor [] xs) (drop_more text at 0 within) (subst (λ ps. StandFor ps (drop at text)) is fits)
