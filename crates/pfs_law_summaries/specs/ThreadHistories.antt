-- What the histories of threads show under a phase's end: of each session that is there then, its last puts of each
-- kind, as many as a thread has places, but for those that were released since.
use Rattle.std.specs.Prelude.{ℕ, ◌≡◌, ◌<◌, true, List, [], ◌∷◌, Some}
use Rattle.pfs_classes.specs.declared.setting.Setting.{Setting}
use Rattle.pfs_event.specs.declared.entry.Entry.{Entry}
use Rattle.pfs_event.specs.declared.entry.Entry.TheVariants as says
use Rattle.pfs_journal.specs.declared.report.PhaseParts.{PhaseParts}
use Rattle.pfs_journal.specs.declared.report.ReportParts.{ReportParts}
use Rattle.pfs_model.specs.Actions.{IsAmong}
use Rattle.pfs_model.specs.Chains.{change_at}
use Rattle.pfs_model.specs.EntryPlaces.{Placed}
use Rattle.pfs_model.specs.Rings.{history_of, is_history_row, shown_at}
use Rattle.pfs_law_summaries.specs.OrderlyRuns.{run_of}
use Rattle.pfs_runs.specs.Runs.{IsRun, AreFinal}
use Rattle.pfs_script.specs.declared.blocks.Phase.{Phase}
use Rattle.pfs_script.specs.Scripts.{IsScript}
use Rattle.pfs_law_conservation.specs.RunEvents.{given_by, quits_at}
use Rattle.pfs_law_conservation.specs.Premises.{AreKept, IsOrderly}
use Rattle.pfs_law_conservation.specs.RunTerms.{Run, entries_to}

-- a place shows a put just where the put is of the history
pub record ShowsHistory (entries : List Placed) (session slot kind row version : ℕ) : Type 0 where
  pub kept : shown_at entries row ≡ Some version → IsAmong (change_at row version) (history_of entries session slot kind)
  pub shown : IsAmong (change_at row version) (history_of entries session slot kind) → shown_at entries row ≡ Some version

-- the slot that a connect printed
abbrev pub slots_at : Placed → Entry → List ℕ
slots_at place (says.Connect action (Some slot) account user host) = slot ∷ []
slots_at place entry = []

-- By these entries the session has connected at this slot and has not quit. Who had the slot before, and has quit, is
-- no matter.
pub record IsThere (entries : List Placed) (session slot : ℕ) : Type 0 where
  pub connected : given_by slots_at session entries ≡ slot ∷ []
  pub stays : given_by quits_at session entries ≡ []

-- of each session that is there under the phase's end, each of the four kinds and each of its ten places
abbrev pub HistoryLaw : Type 0
HistoryLaw = (run : Run) (phase session slot : ℕ) → AreKept run → IsOrderly run
    → IsThere (entries_to run phase) session slot → (kind : ℕ) → kind < 4 → (row : ℕ)
    → is_history_row slot kind row ≡ true → (version : ℕ)
    → ShowsHistory (entries_to run phase) session slot kind row version

-- so it is under a phase's end
abbrev pub HasHistories : Run → PhaseParts → Type 0
HasHistories run phase = (session slot kind row version : ℕ) → IsThere (entries_to run phase.number) session slot
    → kind < 4 → is_history_row slot kind row ≡ true
    → ShowsHistory (entries_to run phase.number) session slot kind row version

-- of each phase of a run
abbrev pub AllHaveHistories : (setting : Setting) (phases : List Phase) (report : ReportParts)
    → IsRun setting phases report → Type 0
AllHaveHistories setting phases report run = AreFinal (HasHistories (run_of setting phases report run)) report.phases

-- of any script
abbrev pub HistoriesLaw : Type 0
HistoriesLaw = (text : List ℕ) (setting : Setting) (phases : List Phase) (report : ReportParts)
    → IsScript text setting phases → (run : IsRun setting phases report)
    → AllHaveHistories setting phases report run
