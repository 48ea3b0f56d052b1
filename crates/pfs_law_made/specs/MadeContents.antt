-- What is kept of rows, and what the changes of the entries make of them.
use Rattle.std.specs.Prelude.{ℕ, ◌≡◌, ◌↔◌, ◌-◌, ◌==◌, Bool, not, List, [], ◌∷◌}
use Rattle.pfs_event.specs.declared.entry.Entry.TheVariants as says
use Rattle.pfs_stat.specs.Stat.{stat_of_words}
use Rattle.pfs_model.specs.Actions.{IsAmong}
use Rattle.pfs_model.specs.Chains.{change_at, row_change}
use Rattle.pfs_model.specs.Contents.{Given}
use Rattle.pfs_model.specs.EntryPlaces.{Placed}
use Rattle.pfs_check_contents.specs.declared.changes.RowChange.{RowChange}
use Rattle.pfs_check_contents.specs.declared.shelf.Shelf.{Shelf}
use Rattle.pfs_check_contents.specs.KeptContents.{IsHad, IsShelfOf, content_at}
use Rattle.pfs_check_contents.specs.OrderlyChanges.{AreOrderly}
use Rattle.pfs_check_contents.specs.PlacedChanges.{AreMadeOf}
use Rattle.pfs_check_faults.specs.ActionFaults.{FindsWhatIsMade, IsMade}

-- Each version that a row had is made, and nothing else is made than what is kept.
pub record IsKeptAsMade (given : Given) (all : List Placed) (shelf : Shelf) : Type 0 where
  pub made : (row version : ℕ) → IsHad all row version → IsMade given all row version (content_at shelf row version)
  pub only : (row version : ℕ) (words : List ℕ) → IsMade given all row version words
      → content_at shelf row version ≡ words

-- So it is where the changes of the entries are orderly, and what is kept are their contents.
abbrev pub KeptLaw : Type 0
KeptLaw = (given : Given) (all : List Placed) (changes : List RowChange) (shelf : Shelf) → AreMadeOf given all changes
    → AreOrderly changes → IsShelfOf given all shelf → IsKeptAsMade given all shelf

-- what is changed had the version before
abbrev pub BeforeLaw : Type 0
BeforeLaw = (given : Given) (all : List Placed) (changes : List RowChange) (place : Placed) (row version : ℕ)
    → AreMadeOf given all changes → AreOrderly changes → IsAmong place all
    → row_change place.entry ≡ change_at row version ∷ [] → IsHad all row (version - 1)

-- the content that is kept of a row at a version has counted something
abbrev pub counts_at : Shelf → ℕ → ℕ → Bool
counts_at shelf row version = not ((stat_of_words (content_at shelf row version)).count == 0)

-- So a take finds what is made just where it finds what is kept.
abbrev pub FindsLaw : Type 0
FindsLaw = (given : Given) (all : List Placed) (shelf : Shelf) (counted : ℕ → Bool) (row version : ℕ)
    → IsKeptAsMade given all shelf → IsHad all row (version - 1)
    → FindsWhatIsMade given all counted (says.Take row version) ↔ (counted row ≡ counts_at shelf row (version - 1))
