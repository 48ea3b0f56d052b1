-- Which row of a table decides. A row may be meant in several ways, the earlier the better. A way is two texts, as a
-- HOST and a USER.
use Rattle.std.specs.Prelude.{◌≡◌, ℕ, suc, ◌<◌, ◌⊎◌, Bool, false, if◌then◌else◌, List, [], ◌∷◌, Option, None, Some, Contains}
use Rattle.std.specs.List.{find}
use Rattle.std.specs.Option.{option_map, option_or}

-- the two flags, or NO and NO
abbrev pub flags_or_off : Option (Bool × Bool) → Bool × Bool
flags_or_off (Some flags) = flags
flags_or_off None = (false, false)

module _ {R : Type 0} (has : List ℕ × List ℕ → R → Bool) where
  -- the first row for the first of the ways that any row has
  abbrev pub first_match : List (List ℕ × List ℕ) → List R → Option R
  first_match [] rows = None
  first_match (way ∷ ways) rows = option_or (find (has way) rows) (first_match ways rows)

  -- the number of the first way that the row has
  abbrev pub fit : List (List ℕ × List ℕ) → R → Option ℕ
  fit [] row = None
  fit (way ∷ ways) row = if has way row then Some 0 else option_map suc (fit ways row)

  -- a row of the table has none of the ways earlier, and it leads all that have the same way
  pub record FitsBest (Leads : R → R → Type 0) (ways : List (List ℕ × List ℕ)) (rows : List R) (row : R) : Type 0 where
    pub there : Contains rows row
    pub number : ℕ
    pub fits : fit ways row ≡ Some number
    pub best : (other : R) (m : ℕ) → Contains rows other → fit ways other ≡ Some m
        → (number < m) ⊎ ((number ≡ m) × Leads row other)

  -- what is decided is what the row says that fits best, or NO and NO where none fits
  abbrev pub Decides : (R → R → Type 0) → (R → Bool × Bool) → List (List ℕ × List ℕ) → List R → Bool × Bool → Type 0
  Decides Leads flags ways rows answer =
      ((row : R) × FitsBest Leads ways rows row × (answer ≡ flags row))
      ⊎ (((other : R) → Contains rows other → fit ways other ≡ None) × (answer ≡ (false, false)))
