-- The contents that are kept of rows, and those of a report.
use Rattle.std.specs.Prelude.{ℕ, ◌≡◌, ◌⊎◌, ◌==◌, ◌||◌, Bool, cond, List, replicate, Option, Some, None, is_some}
use Rattle.std.specs.BTreeMap.{get}
use Rattle.std.specs.declared.cmp.Ordering.{Ordering}
use Rattle.std.specs.Ordering.{nat_cmp, ordering_then}
use Rattle.pfs_model.specs.declared.changes.Change.{Change}
use Rattle.pfs_model.specs.Actions.{IsAmong}
use Rattle.pfs_model.specs.Chains.{change_at, each_of, row_change}
use Rattle.pfs_model.specs.Contents.{AreContents, Given, opening_words}
use Rattle.pfs_model.specs.EntryPlaces.{Placed}
use Rattle.pfs_check_contents.specs.declared.shelf.Shelf.{Shelf}

-- by the row, and then by the version
abbrev pub change_cmp : Change → Change → Ordering
change_cmp one other = ordering_then (nat_cmp one.row other.row) (nat_cmp one.version other.version)

abbrev pub or_zeros : Option (List ℕ) → List ℕ
or_zeros None = replicate 16 0
or_zeros (Some words) = words

abbrev pub content_at : Shelf → ℕ → ℕ → List ℕ
content_at shelf row version =
    cond (version == 0) (opening_words row) (or_zeros (get change_cmp shelf.kept (change_at row version)))

-- it is kept, or the one that the row opens with
abbrev pub has_at : Shelf → ℕ → ℕ → Bool
has_at shelf row version = (version == 0) || is_some (get change_cmp shelf.kept (change_at row version))

-- a row had a version: the one that it opened with, or one that a change made
abbrev pub IsHad : List Placed → ℕ → ℕ → Type 0
IsHad all row version = (version ≡ 0) ⊎ IsAmong (change_at row version) (each_of row_change all)

-- The changes of the entries have contents, and at each version that a row had what is kept is that of each content
-- that they can have.
pub record IsShelfOf (given : Given) (all : List Placed) (shelf : Shelf) : Type 0 where
  pub content : ℕ → ℕ → List ℕ
  pub are : AreContents given content all
  pub only : (other : ℕ → ℕ → List ℕ) → AreContents given other all → (row version : ℕ) → IsHad all row version
      → content_at shelf row version ≡ other row version
