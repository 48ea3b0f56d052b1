-- The greatest version that a row got up to a number.
use Rattle.std.specs.Prelude.{ℕ, ◌==◌, max, nat_le, Bool, ◌&&◌, if◌then◌else◌, List, [], ◌∷◌, Option, Some, None}
use Rattle.pfs_check_tops.specs.declared.tops.Given.{Given}

abbrev pub is_up_to : ℕ → ℕ → Given → Bool
is_up_to row at given = (given.row == row) && nat_le given.at at

abbrev pub greater_of : ℕ → Option ℕ → Option ℕ
greater_of version None = Some version
greater_of version (Some other) = Some (max version other)

-- None where it got none
abbrev pub greatest_up_to : ℕ → ℕ → List Given → Option ℕ
greatest_up_to row at [] = None
greatest_up_to row at (given ∷ givens) =
    if is_up_to row at given then greater_of given.version (greatest_up_to row at givens)
    else greatest_up_to row at givens
