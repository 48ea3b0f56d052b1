-- What changes make of rows, in whatever order they stand.
use Rattle.std.specs.Prelude.{ℕ, ◌≡◌, ◌==◌, cond, List, Option, Some}
use Rattle.std.specs.BTreeMap.{BTreeMap, get}
use Rattle.pfs_model.specs.declared.changes.Change.{Change}
use Rattle.pfs_model.specs.Chains.{AreChained, change_at, row_change}
use Rattle.pfs_model.specs.Contents.{Given, opening_words}
use Rattle.pfs_model.specs.EntryPlaces.{Placed}
use Rattle.pfs_check_contents.specs.KeptContents.{change_cmp}
use Rattle.pfs_check_contents.specs.PlacedChanges.{AreMadeOf}
use Rattle.pfs_check_contents.specs.declared.changes.RowChange.{RowChange}
use Rattle.pfs_check_faults.specs.ActionFaults.{IsMade}
use Rattle.pfs_check_reached.specs.declared.reached.Reached.{Reached}

-- what is kept of a row at a version, if anything is made of it
abbrev pub told_in : BTreeMap Change (List ℕ) → ℕ → ℕ → Option (List ℕ)
told_in kept row version = cond (version == 0) (Some (opening_words row)) (get change_cmp kept (change_at row version))

-- Just that is kept which the changes make.
pub record TellsMade (given : Given) (all : List Placed) (reached : Reached) : Type 0 where
  pub made : (row version : ℕ) (words : List ℕ) → told_in reached.kept row version ≡ Some words
      → IsMade given all row version words
  pub only : (row version : ℕ) (words : List ℕ) → IsMade given all row version words
      → told_in reached.kept row version ≡ Some words

-- so of whatever entries these are the changes, where each stands once
abbrev pub AreReached : List RowChange → Reached → Type 0
AreReached changes reached = (given : Given) (all : List Placed) → AreMadeOf given all changes
    → AreChained row_change all → TellsMade given all reached
