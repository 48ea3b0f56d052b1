-- Sorted tops: what rows got, each with the greatest version of its row up to it.
use Rattle.std.specs.Prelude.{ℕ, ◌≡◌, ◌<◌, ◌≤◌, ◌==◌, max, nat_lt, nat_le, Bool, ◌&&◌, ◌||◌, if◌then◌else◌, List, slice_get, Some}
use Rattle.pfs_check_tops.specs.declared.tops.Given.{Given}
use Rattle.pfs_check_tops.specs.declared.tops.Tops.{Tops}

abbrev pub next_top : Given → Given → Given
next_top last given = record {
  row = given.row;
  at = given.at;
  version = if last.row == given.row then max last.version given.version else given.version;
}

-- one of a list
abbrev pub IsOneOf : Given → List Given → Type 0
IsOneOf one givens = (place : ℕ) × (slice_get givens place ≡ Some one)

-- one stands before another, or with it: in a lower row, or in its row at no greater number
pub record IsUpTo (one other : Given) : Type 0 where
  pub row : one.row ≤ other.row
  pub at : one.row ≡ other.row → one.at ≤ other.at

abbrev pub AreInOrder : List Given → Type 0
AreInOrder givens = (i j : ℕ) (one other : Given) → i ≤ j → slice_get givens i ≡ Some one
    → slice_get givens j ≡ Some other → IsUpTo one other

-- a top tells of a given: in its row, at its number, no lower
pub record Covers (tops : List Given) (one : Given) : Type 0 where
  pub place : ℕ
  pub top : Given
  pub there : slice_get tops place ≡ Some top
  pub row : top.row ≡ one.row
  pub at : top.at ≡ one.at
  pub version : one.version ≤ top.version

-- the version of a top is that of a given of its row, at no greater number
pub record IsGiven (givens : List Given) (top : Given) : Type 0 where
  pub one : Given
  pub there : IsOneOf one givens
  pub row : one.row ≡ top.row
  pub at : one.at ≤ top.at
  pub version : one.version ≡ top.version

-- In order, each with the greatest version of its row up to it.
pub record AreTops (tops givens : List Given) : Type 0 where
  pub order : AreInOrder tops
  pub rising : (i j : ℕ) (one other : Given) → i ≤ j → slice_get tops i ≡ Some one → slice_get tops j ≡ Some other
      → one.row ≡ other.row → one.version ≤ other.version
  pub covers : (one : Given) → IsOneOf one givens → Covers tops one
  pub given : (i : ℕ) (top : Given) → slice_get tops i ≡ Some top → IsGiven givens top

abbrev pub AreTopsOf : Tops → List Given → Type 0
AreTopsOf tops givens = AreTops tops.items.items givens

-- it is in a lower row, or in this one up to this number; or it is behind
pub record IsWithin (row at : ℕ) (top : Given) : Type 0 where
  pub row_is : top.row ≤ row
  pub at_is : top.row ≡ row → top.at ≤ at

pub record IsBehind (row at : ℕ) (top : Given) : Type 0 where
  pub row_is : row ≤ top.row
  pub at_is : top.row ≡ row → at < top.at

abbrev pub within_test : ℕ → ℕ → Given → Bool
within_test row at top = nat_lt top.row row || ((top.row == row) && nat_le top.at at)

-- those below a place are within, and those from a place on are behind
pub record Parts (tops : List Given) (row at low high : ℕ) : Type 0 where
  pub below : (i : ℕ) (top : Given) → i < low → slice_get tops i ≡ Some top → IsWithin row at top
  pub above : (i : ℕ) (top : Given) → high ≤ i → slice_get tops i ≡ Some top → IsBehind row at top
