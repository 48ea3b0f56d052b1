-- Start and end lines of two runs that tell the same, and that all of a quiet phase do.
use Rattle.std.specs.Prelude.{ℕ, ◌≡◌, ◌+◌, List, [], ◌∷◌, is_some}
use Rattle.pfs_classes.specs.declared.setting.Setting.{Setting}
use Rattle.pfs_journal.specs.declared.report.ReportParts.{ReportParts}
use Rattle.pfs_law_conservation.specs.RunTerms.{Run}
use Rattle.pfs_law_summaries.specs.OrderlyRuns.{run_of}
use Rattle.pfs_model.specs.EntryPlaces.{Placed, in_phase, places}
use Rattle.pfs_runs.specs.PhaseFinals.{verdict_at}
use Rattle.pfs_runs.specs.Runs.{IsRun, all_blocks}
use Rattle.pfs_script.specs.Scripts.{IsScript}
use Rattle.pfs_script.specs.declared.blocks.Phase.{Phase}
use Rattle.pfs_law_agreed.specs.Agreement.{AgreeBehind, AreSameOpen}
use Rattle.pfs_law_agreed.specs.AlignedEvents.{IsSameLine, events_in}
use Rattle.pfs_law_agreed.specs.QuietPhases.{IsQuietAt}

-- two lines that tell the same: of the same event, with one verdict, where the same events are open
pub record IsTold (a b : Run) (p q : Placed) : Type 0 where
  pub line : IsSameLine p q
  pub verdict : verdict_at p.entry ≡ verdict_at q.entry
  pub slot : is_some p.context.slot ≡ is_some q.context.slot
  pub account : is_some p.context.account ≡ is_some q.context.account
  pub user : is_some p.context.user ≡ is_some q.context.user
  pub host : is_some p.context.host ≡ is_some q.context.host
  pub opened : AreSameOpen a b p.context.slot q.context.slot p.context.opened q.context.opened

abbrev pub AreTold : Run → Run → List Placed → List Placed → Type 0
AreTold a b [] [] = Unit {0}
AreTold a b (p ∷ ps) (q ∷ qs) = IsTold a b p q × AreTold a b ps qs
AreTold a b _ _ = ⊥

-- two runs of a script that agree behind a phase tell the same of each start and end of the next, if it is quiet
abbrev pub ToldLaw : Type 0
ToldLaw = (text : List ℕ) (setting : Setting) (phases : List Phase) (report other : ReportParts)
    → IsScript text setting phases → (run : IsRun setting phases report) (second : IsRun setting phases other)
    (number : ℕ) → IsQuietAt (number + 1) 1 phases
    → AgreeBehind (run_of setting phases report run) (run_of setting phases other second) number
    → AreTold (run_of setting phases report run) (run_of setting phases other second)
    (events_in (in_phase (number + 1) (places (all_blocks run.blocks))))
    (events_in (in_phase (number + 1) (places (all_blocks second.blocks))))
