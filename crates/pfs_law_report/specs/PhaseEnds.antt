-- The ends of a run's phases as whoever runs its sessions has them, and that what stands there is final.
use Rattle.std.specs.Prelude.{ℕ, ◌≡◌, ◌≤◌, ◌<◌, List, ◌++◌, All, map}
use Rattle.std.specs.List.{flat_map}
use Rattle.pfs_admin.specs.Fold.{StandsFor}
use Rattle.pfs_admin.specs.OpeningState.{opening_flags}
use Rattle.pfs_admin.specs.AdministrationStates.{State}
use Rattle.pfs_admin.specs.declared.changes.Change.{Change}
use Rattle.pfs_law_plain.specs.Spells.{Spell, AreSpells, calls_of}
use Rattle.pfs_board.specs.declared.view.Label.{Label}
use Rattle.pfs_classes.specs.declared.setting.Setting.{Setting}
use Rattle.pfs_finals.specs.Counters.{counters, lost_row}
use Rattle.pfs_finals.specs.Finals.{TableRead, all_readings, final_order, table_report}
use Rattle.pfs_journal.specs.declared.report.PhaseParts.{PhaseParts}
use Rattle.pfs_levels.specs.Calls.{Call}
use Rattle.pfs_levels.specs.JointCalls.{sets_of}
use Rattle.pfs_levels.specs.PlainStore.{AllAnswer, ops_of}
use Rattle.pfs_matching.specs.ObjectRules.{opening_objects}
use Rattle.pfs_model.specs.Chains.{Each}
use Rattle.pfs_model.specs.Contents.{Facts}
use Rattle.pfs_model.specs.EntryPlaces.{up_to_phase}
use Rattle.pfs_reader.specs.Readings.{calls_of as calls_of_readings}
use Rattle.pfs_readsets.specs.TablePlaces.{scope_of}
use Rattle.pfs_readsets.specs.ReadSets.{IsReadSet}
use Rattle.pfs_law_plain.specs.RunRules.{entries_of, labels_of, contents_of}
use Rattle.pfs_runs.specs.PhaseFinals.{IsFinal, lost_behind}
use Rattle.pfs_runs.specs.Labels.{terms_of}
use Rattle.pfs_runs.specs.Rules.{flags_by}
use Rattle.pfs_runs.specs.Runs.{AreFinal}

-- Behind these spells the store's calls so far have done to rows and words just what the spells' own calls do, however
-- much was read between them. Then the tables of the order were read, each its read set, and nothing else; they are
-- the report's. Its counters are those of the administration that stands there, and of the events that the spells say
-- were lost.
pub record IsEnd (setting : Setting) (change : Label → Change) (spells : List Spell) (calls : List Call)
    (report : PhaseParts) : Type 0 where
  pub ops : ops_of calls ≡ ops_of (calls_of spells)
  pub sets : sets_of calls ≡ sets_of (calls_of spells)
  pub reads : List TableRead
  pub answers : AllAnswer (opening_flags setting opening_objects) (calls_of_readings (all_readings reads) ++ calls)
  pub order : map (λ (read : TableRead). read.table) reads ≡ final_order
  pub each : All (λ (read : TableRead). IsReadSet (scope_of setting) read.table read.readings) reads
  pub tables : report.tables ≡ flat_map (table_report setting) reads
  pub admin : State
  pub stands : StandsFor setting change (labels_of spells) admin
  pub lost : report.lost
      ≡ flat_map (lost_row setting.classes (lost_behind admin.kept.now (entries_of spells))) counters

-- by what all spells of a run make of rows, words and containers, the report is final of its phase
abbrev pub IsFinalOf : Setting → (Label → Change) → (ℕ → ℕ → Facts) → List Spell → PhaseParts → Type 0
IsFinalOf setting change facts spells report =
    IsFinal setting change (labels_of spells) (contents_of spells)
    (flags_by (terms_of setting change facts (labels_of spells)) (entries_of spells))
    (up_to_phase report.number (entries_of spells)) report

-- of the spells up to a phase and those behind it
abbrev pub EndsLaw : Type 0
EndsLaw = (setting : Setting) (change : Label → Change) (facts : ℕ → ℕ → Facts)
    (depths : ℕ → ℕ) (first later : List Spell) (calls : List Call) (report : PhaseParts)
    → AreSpells setting.limits.statement_stack depths (first ++ later)
    → AllAnswer (opening_flags setting opening_objects) (calls_of (first ++ later))
    → Each (λ spell. spell.phase ≤ report.number) first → Each (λ spell. report.number < spell.phase) later
    → IsEnd setting change first calls report → IsFinalOf setting change facts (first ++ later) report

-- a phase ended behind the first of these spells, those up to it
pub record HasEnded (setting : Setting) (change : Label → Change) (spells : List Spell) (report : PhaseParts) : Type 0
  where
    pub first : List Spell
    pub later : List Spell
    pub parted : spells ≡ first ++ later
    pub low : Each (λ spell. spell.phase ≤ report.number) first
    pub high : Each (λ spell. report.number < spell.phase) later
    pub calls : List Call
    pub ended : IsEnd setting change first calls report

-- so of all phases that ended
abbrev pub AllEndLaw : Type 0
AllEndLaw = (setting : Setting) (change : Label → Change) (facts : ℕ → ℕ → Facts)
    (depths : ℕ → ℕ) (spells : List Spell) (reports : List PhaseParts)
    → AreSpells setting.limits.statement_stack depths spells
    → AllAnswer (opening_flags setting opening_objects) (calls_of spells)
    → AreFinal (HasEnded setting change spells) reports
    → AreFinal (IsFinalOf setting change facts spells) reports

-- whatever sessions did up to a phase, it can end there, since any plain store can be read, and then it is final
abbrev pub CanEndLaw : Type 0
CanEndLaw = (setting : Setting) (change : Label → Change) (facts : ℕ → ℕ → Facts)
    (depths : ℕ → ℕ) (spells : List Spell) (number : ℕ) → AreSpells setting.limits.statement_stack depths spells
    → AllAnswer (opening_flags setting opening_objects) (calls_of spells)
    → Each (λ spell. spell.phase ≤ number) spells
    → (report : PhaseParts) × (report.number ≡ number) × HasEnded setting change spells report
    × IsFinalOf setting change facts spells report
