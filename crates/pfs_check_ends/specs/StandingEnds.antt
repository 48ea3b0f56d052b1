-- What is kept of the ends of a report, and what it shows there.
use Rattle.std.specs.Prelude.{ℕ, ◌≡◌, ◌<◌, ◌^◌, List}
use Rattle.pfs_check_contents.specs.KeptContents.{IsHad, content_at}
use Rattle.pfs_check_verdicts.specs.PrintedSets.{GivesFlags}
use Rattle.pfs_model.specs.EntryPlaces.{Placed, up_to_phase}
use Rattle.pfs_readsets.specs.declared.target.Target.{Target}
use Rattle.pfs_rows.specs.declared.table.Reading.{Reading}
use Rattle.pfs_runs.specs.PhaseFinals.{reading_of}
use Rattle.pfs_check_ends.specs.EndSights.{AreFewSights}
use Rattle.pfs_check_ends.specs.declared.ends.Ends.{Ends}

-- it is kept of some entries, contents and flags, and this is what they show at the ends of phases
pub record Shows (ends : Ends) (shown : ℕ → Target → Reading) : Type 0 where
  pub all : List Placed
  pub content : ℕ → ℕ → List ℕ
  pub flags : ℕ → ℕ → ℕ
  pub sights : AreFewSights all ends.sights
  pub contents : (row version : ℕ) → IsHad all row version → content_at ends.shelf row version ≡ content row version
  pub kept : GivesFlags flags ends.flags
  pub fit : (word version : ℕ) → flags word version < 2 ^ 16
  pub each : (phase : ℕ) (target : Target)
      → shown phase target ≡ reading_of content flags (up_to_phase phase all) target
