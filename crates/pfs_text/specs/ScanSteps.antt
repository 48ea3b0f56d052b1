-- What a scan of a text with a pattern keeps from step to step.
use Rattle.std.specs.Prelude.{◌≡◌, ℕ, ◌==◌, ◌+◌, ◌-◌, ◌*◌, ◌<◌, ◌≤◌, ◌⊎◌, ◌↔◌, Bool, true, false, if◌then◌else◌, List, [], ◌∷◌, length, drop, IsTrue, Option, None, Some}
use Rattle.pfs_text.specs.Patterns.{StandFor, parts_of}
use Rattle.pfs_text.specs.declared.pattern.Part.{Part}
use Rattle.pfs_text.specs.declared.pattern.Part.TheVariants.{AnyBytes, OneByte, Byte}
use Rattle.pfs_text.specs.declared.pattern.Scan.{Scan}
use Rattle.pfs_text.specs.declared.pattern.Step.{Step}
use Rattle.pfs_text.specs.declared.pattern.Step.TheVariants.{Goes, Ends}

-- the part is no `%`, and stands for the first byte
abbrev pub StandsFirst : Part → List ℕ → Type 0
StandsFirst AnyBytes text = ⊥
StandsFirst OneByte [] = ⊥
StandsFirst OneByte (x ∷ text) = Unit {0}
StandsFirst (Byte b) [] = ⊥
StandsFirst (Byte b) (x ∷ text) = b ≡ x

-- the byte is none of `%`, `_` and `\`, so it stands for itself whatever is next to it
abbrev pub is_literal : ℕ → Bool
is_literal b = if b == 37 then false else if b == 95 then false else if b == 92 then false else true

-- the text is like the pattern from no place before this one on, or from none at all
abbrev pub MayBeginAt : List ℕ → List ℕ → Option ℕ → Type 0
MayBeginAt pattern text None = (k : ℕ) → ¬ StandFor (parts_of pattern) (drop k text)
MayBeginAt pattern text (Some n) = (n ≤ length text) × ((k : ℕ) → k < n → ¬ StandFor (parts_of pattern) (drop k text))

module _ (pattern text : List ℕ) where
  -- what is left of the pattern from a place on stands for what is left of the text
  abbrev pub FitsAt : ℕ → ℕ → Type 0
  FitsAt place at = StandFor (parts_of (drop place pattern)) (drop at text)

  -- the places are inside, and from wherever the parts after the last `%` fit, those from `place` on fit `passed`
  -- bytes later
  pub record Stands (scan : Scan) : Type 0 where
    pub ordered : scan.begin ≤ scan.place
    pub in_pattern : scan.place ≤ length pattern
    pub in_text : scan.start + scan.passed ≤ length text
    pub skips : (k : ℕ) → FitsAt scan.begin k → FitsAt scan.place (k + scan.passed)

  -- the text fits from here on, or, after a `%`, from a later start
  abbrev pub MayFit : Scan → Type 0
  MayFit scan = FitsAt scan.place (scan.start + scan.passed)
      ⊎ (IsTrue scan.moves × ((k : ℕ) × (scan.start < k) × FitsAt scan.begin k))

  abbrev pub steps_left : Scan → ℕ
  steps_left scan = (length text - scan.start) * (length pattern + 1) + (length pattern - scan.place)

  -- a step answers, or goes on with the same question and fewer steps left
  abbrev pub Moves : Scan → Step → Type 0
  Moves scan (Ends answer) = IsTrue answer ↔ MayFit scan
  Moves scan (Goes next) = Stands next × (MayFit scan ↔ MayFit next) × (steps_left next < steps_left scan)
