-- What stands at the ends of phases, and the tables that are due there.
use Rattle.std.specs.Prelude.{ℕ, ◌≡◌, ◌+◌, ◌++◌, List, All, map, Option, Some, None}
use Rattle.std.specs.List.{flat_map}
use Rattle.pfs_classes.specs.declared.setting.Setting.{Setting}
use Rattle.pfs_finals.specs.Finals.{TableRead, final_order, table_read, table_report}
use Rattle.pfs_journal.specs.ReportLines.{table_lines}
use Rattle.pfs_journal.specs.declared.values.TableReport.{TableReport}
use Rattle.pfs_model.specs.EntryPlaces.{up_to_phase}
use Rattle.pfs_readsets.specs.ReadSets.{IsReadSet, target_of}
use Rattle.pfs_readsets.specs.TablePlaces.{scope_of}
use Rattle.pfs_readsets.specs.declared.target.Target.{Target}
use Rattle.pfs_rows.specs.declared.table.Reading.{Reading}
use Rattle.pfs_rows.specs.declared.table.Table.{Table}
use Rattle.pfs_runs.specs.PhaseFinals.{reading_of}
use Rattle.pfs_check_faults.specs.declared.rules.Rule.TheVariants as rules
use Rattle.pfs_check_faults.specs.Judgements.{IsFirstFault, Keeps, WithContents}
use Rattle.pfs_check_faults.specs.ReportCases.{Case, Findings, entries_of, flags_in}
use Rattle.pfs_check_finals.specs.Differences.{DifferAt}
use Rattle.pfs_check_finals.specs.declared.rules.EndRule.{EndRule}
use Rattle.pfs_check_finals.specs.declared.rules.EndRule.TheVariants.{Kept, Wrong}

-- a table read as a whole, each reading as it is shown
pub record IsReadAs (setting : Setting) (shown : Target → Reading) (read : TableRead) : Type 0 where
  pub whole : IsReadSet (scope_of setting) read.table read.readings
  pub each : All (λ reading. reading ≡ shown (target_of reading)) read.readings

-- a table was read so and, where it has rows, put behind the others
pub record IsPutAs (setting : Setting) (shown : Target → Reading) (table : Table) (old new : List TableReport)
    : Type 0 where
  pub readings : List Reading
  pub read : IsReadAs setting shown (table_read table readings)
  pub put : new ≡ old ++ table_report setting (table_read table readings)

-- those of this order that have rows, where rows and words show this
pub record AreDueOf (setting : Setting) (shown : Target → Reading) (order : List Table) (tables : List TableReport)
    : Type 0 where
  pub reads : List TableRead
  pub order_is : map (λ (read : TableRead). read.table) reads ≡ order
  pub each : All (IsReadAs setting shown) reads
  pub are : tables ≡ flat_map (table_report setting) reads

-- the tables that are due at a phase's end
abbrev pub AreDue : Setting → (Target → Reading) → List TableReport → Type 0
AreDue setting shown tables = AreDueOf setting shown final_order tables

-- the tables of a phase are those that are due, or this is the first line where they aren't; the phase's `final` has
-- the line `last`
abbrev pub AreTablesAsked : Setting → (Target → Reading) → ℕ → List TableReport → Option ℕ → Type 0
AreTablesAsked setting shown last tables None = AreDue setting shown tables
AreTablesAsked setting shown last tables (Some line) =
    (due : List TableReport) × AreDue setting shown due
    × (at : ℕ) × (line ≡ last + 1 + at) × DifferAt (flat_map table_lines due) (flat_map table_lines tables) at

-- what a row, or a word, of a report shows at the end of the phase of a number, by these contents
abbrev pub shown_by : Case → Findings → (ℕ → ℕ → List ℕ) → ℕ → Target → Reading
shown_by case found content phase target =
    reading_of content (flags_in case found) (up_to_phase phase (entries_of found)) target

-- who stands for the ends of a report shows this, whatever contents its changes make
abbrev pub AreEndsOf : Case → Findings → ((ℕ → Target → Reading) → Type 0) → Type 0
AreEndsOf case found stands = WithContents case found (λ content. stands (shown_by case found content))

-- the eleventh rule is kept, or this is the first line at which it fails
abbrev pub IsTablesJudged : Case → Findings → EndRule → Type 0
IsTablesJudged case found Kept = Keeps rules.Tables case found
IsTablesJudged case found (Wrong line) = IsFirstFault rules.Tables case found line

-- the same of the twelfth
abbrev pub IsLostJudged : Case → Findings → EndRule → Type 0
IsLostJudged case found Kept = Keeps rules.Lost case found
IsLostJudged case found (Wrong line) = IsFirstFault rules.Lost case found line
