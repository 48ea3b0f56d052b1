-- Phases without an administration line, and the versions that are loaded there.
use Rattle.std.specs.Prelude.{ℕ, ◌≡◌, ◌+◌, List, [], ◌∷◌}
use Rattle.pfs_classes.specs.declared.setting.Setting.{Setting}
use Rattle.pfs_journal.specs.declared.report.ReportParts.{ReportParts}
use Rattle.pfs_model.specs.Chains.{Each}
use Rattle.pfs_model.specs.EntryPlaces.{Placed, before_phase, places}
use Rattle.pfs_model.specs.SetupFlags.{loads_of}
use Rattle.pfs_model.specs.declared.changes.Change.{Change}
use Rattle.pfs_runs.specs.PhaseFinals.{word_version}
use Rattle.pfs_runs.specs.Runs.{IsRun, all_blocks}
use Rattle.pfs_runs.specs.ScriptLines.{changes_in}
use Rattle.pfs_script.specs.declared.blocks.Block.{Block as Said}
use Rattle.pfs_script.specs.declared.blocks.Phase.{Phase}

-- no session connects, quits or acts by SQL there
abbrev pub IsQuietPhase : Phase → Type 0
IsQuietPhase phase = Each (λ (block : Said). changes_in block ≡ []) phase.blocks

-- the phase of this number is quiet, where the first of these has that one
abbrev pub IsQuietAt : ℕ → ℕ → List Phase → Type 0
IsQuietAt number first [] = Unit {0}
IsQuietAt number first (phase ∷ phases) = (first ≡ number → IsQuietPhase phase) × IsQuietAt number (first + 1) phases

-- what an entry of the phase loads is at the version that the word had as the phase began
abbrev pub LoadsStood : List Placed → ℕ → Placed → Type 0
LoadsStood all number place = place.phase ≡ number
    → Each (λ (load : Change). load.version ≡ word_version (before_phase number all) load.row) (loads_of place)

abbrev pub QuietLoadsLaw : Type 0
QuietLoadsLaw = (setting : Setting) (phases : List Phase) (report : ReportParts) (run : IsRun setting phases report)
    (number : ℕ) → IsQuietAt number 1 phases
    → Each (LoadsStood (places (all_blocks run.blocks)) number) (places (all_blocks run.blocks))
