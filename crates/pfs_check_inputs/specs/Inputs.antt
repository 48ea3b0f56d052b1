-- An input: a script and behind it a report.
use Rattle.std.specs.Prelude.{ℕ, ◌≡◌, ◌-◌, ◌<◌, ◌≤◌, ◌⊎◌, nat_eq, true, List, [], ◌∷◌, drop, length, slice_get, Some}
use Rattle.std.specs.List.{starts_with}

-- the bytes of `pfs-report`
unfoldable pub report_word : List ℕ
report_word = 112 ∷ 102 ∷ 115 ∷ 45 ∷ 114 ∷ 101 ∷ 112 ∷ 111 ∷ 114 ∷ 116 ∷ []

-- at this byte begins a line, and the line with that word
pub record BeginsReport (bytes : List ℕ) (at : ℕ) : Type 0 where
  pub line : (at ≡ 0) ⊎ (slice_get bytes (at - 1) ≡ Some 10)
  pub word : starts_with nat_eq (drop at bytes) report_word ≡ true

-- the first such line begins there; or there is none, and it is the end
pub record IsReportStart (bytes : List ℕ) (at : ℕ) : Type 0 where
  pub within : at ≤ length bytes
  pub begins : BeginsReport bytes at ⊎ (at ≡ length bytes)
  pub first : (other : ℕ) → other < at → BeginsReport bytes other → ⊥
