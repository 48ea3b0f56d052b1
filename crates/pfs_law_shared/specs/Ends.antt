-- The end of a phase whose sessions ran at once: what stands there is final.
use Rattle.std.specs.Prelude.{ℕ, ◌≡◌, ◌≤◌, ◌<◌, List, [], ◌∷◌, ◌++◌, All, map}
use Rattle.std.specs.List.{flat_map}
use Rattle.pfs_admin.specs.AdministrationStates.{State}
use Rattle.pfs_admin.specs.Fold.{StandsFor}
use Rattle.pfs_admin.specs.OpeningState.{opening_flags}
use Rattle.pfs_admin.specs.declared.changes.Change.{Change}
use Rattle.pfs_board.specs.declared.view.Label.{Label}
use Rattle.pfs_classes.specs.declared.setting.Setting.{Setting}
use Rattle.pfs_finals.specs.Counters.{counters, lost_row}
use Rattle.pfs_finals.specs.Finals.{TableRead, all_readings, final_order, table_report}
use Rattle.pfs_journal.specs.declared.report.PhaseParts.{PhaseParts}
use Rattle.pfs_law_joint.specs.Phases.{IsShared}
use Rattle.pfs_law_plain.specs.RunRules.{entries_of}
use Rattle.pfs_law_plain.specs.Spells.{Spell, AreSpells}
use Rattle.pfs_law_shared.specs.Order.{AllNear}
use Rattle.pfs_law_shared.specs.Rules.{of_rows}
use Rattle.pfs_law_shared.specs.Shares.{actors_of, AreShared}
use Rattle.pfs_matching.specs.ObjectRules.{opening_objects}
use Rattle.pfs_model.specs.Chains.{Each}
use Rattle.pfs_model.specs.Contents.{Facts}
use Rattle.pfs_model.specs.EntryPlaces.{up_to_phase}
use Rattle.pfs_reader.specs.Readings.{calls_of as calls_of_readings}
use Rattle.pfs_readsets.specs.TablePlaces.{scope_of}
use Rattle.pfs_readsets.specs.ReadSets.{IsReadSet}
use Rattle.pfs_rows.specs.declared.table.Reading.{Reading}
use Rattle.pfs_rows.specs.declared.table.Reading.TheVariants as readings
use Rattle.pfs_rows.specs.declared.table.Seen.TheVariants as sees
use Rattle.pfs_runs.specs.Labels.{terms_of}
use Rattle.pfs_runs.specs.PhaseFinals.{IsFinal, lost_behind}
use Rattle.pfs_runs.specs.Rules.{flags_by}

-- a reading that nobody's hand held back
abbrev pub IsSeen : Reading → Type 0
IsSeen (readings.Slot row (sees.Busy first second)) = ⊥
IsSeen _ = Unit {0}

-- Behind these spells the tables of the order were read, each its read set, and nothing else, by one who is an actor
-- behind all of theirs; they are the report's. Its counters are those of the administration that stands for the labels
-- in common, and of the events that the spells say were lost.
pub record IsEnd (setting : Setting) (change : Label → Change) (spells : List Spell) (report : PhaseParts) : Type 0
  where
    pub reads : List TableRead
    pub common : IsShared (opening_flags setting opening_objects) (actors_of spells)
        (calls_of_readings (all_readings reads) ∷ [])
    pub seen : All IsSeen (all_readings reads)
    pub order : map (λ (read : TableRead). read.table) reads ≡ final_order
    pub each : All (λ (read : TableRead). IsReadSet (scope_of setting) read.table read.readings) reads
    pub tables : report.tables ≡ flat_map (table_report setting) reads
    pub admin : State
    pub stands : StandsFor setting change common.labels admin
    pub lost : report.lost
        ≡ flat_map (lost_row setting.classes (lost_behind admin.kept.now (entries_of spells))) counters

-- of the spells up to a phase and those behind it, by the labels and the contents that all of them have in common
abbrev pub EndsLaw : Type 0
EndsLaw = (setting : Setting) (change : Label → Change) (facts : ℕ → ℕ → Facts) (depths : ℕ → ℕ)
    (first later : List Spell) (last : ℕ) (report : PhaseParts)
    → AreSpells setting.limits.statement_stack depths (first ++ later)
    → (shared : AreShared (opening_flags setting opening_objects) (first ++ later)) → AllNear (first ++ later)
    → Each (λ spell. spell.phase ≤ last) (first ++ later)
    → Each (λ spell. spell.phase ≤ report.number) first → Each (λ spell. report.number < spell.phase) later
    → IsEnd setting change first report
    → IsFinal setting change (shared last).labels (of_rows (shared last).content)
    (flags_by (terms_of setting change facts (shared last).labels) (entries_of (first ++ later)))
    (up_to_phase report.number (entries_of (first ++ later))) report
