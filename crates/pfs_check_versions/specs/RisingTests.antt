-- How it is tested that numbers rise along each session.
use Rattle.std.specs.Prelude.{ℕ, ◌≡◌, ◌<◌, ◌≤◌, nat_lt, Bool, true, List, length, take, slice_get, Option, Some, None}
use Rattle.pfs_model.specs.Chains.{Each}
use Rattle.pfs_check_versions.specs.declared.changes.PlacedChange.{PlacedChange}

-- its version is above those that its session has before
abbrev pub RisesIn : List PlacedChange → PlacedChange → Type 0
RisesIn before one = Each (λ (other : PlacedChange). other.session ≡ one.session
    → other.change.version < one.change.version) before

-- so the change at this place
abbrev pub RisesAtPlace : List PlacedChange → ℕ → Type 0
RisesAtPlace all place = (one : PlacedChange) → slice_get all place ≡ Some one → RisesIn (take place all) one

abbrev pub above_test : Option ℕ → ℕ → Bool
above_test None number = true
above_test (Some last) number = nat_lt last number

-- so many rise, from the first on
pub record AreRisen (changes : List PlacedChange) (place : ℕ) : Type 0 where
  pub within : place ≤ length changes
  pub risen : (other : ℕ) → other < place → RisesAtPlace changes other
  pub falls : place < length changes → RisesAtPlace changes place → ⊥
