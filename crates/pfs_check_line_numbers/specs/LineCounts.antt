-- Lines of a report that are counted together.
use Rattle.std.specs.Prelude.{ℕ, ◌≡◌, ◌+◌, ◌^◌, ◌≤◌, List, ◌∷◌, ◌++◌, length, map, drop, Result, Ok, Err}
use Rattle.std.specs.List.{flat_map}
use Rattle.pfs_event.specs.declared.entry.Entry.{Entry}
use Rattle.pfs_text.specs.declared.values.RowValue.{RowValue}
use Rattle.pfs_journal.specs.ReportLines.{journal_lines, table_lines}
use Rattle.pfs_journal.specs.declared.line.Line.{Line}
use Rattle.pfs_journal.specs.declared.line.Line.TheVariants as says
use Rattle.pfs_journal.specs.declared.report.PhaseParts.{PhaseParts}
use Rattle.pfs_check_line_numbers.specs.declared.line_counts.Spot.{Spot}

-- the lines of a phase behind its blocks
abbrev pub result_lines : PhaseParts → List Line
result_lines phase = says.Final ∷ (flat_map table_lines phase.tables ++ map says.Lost phase.lost)

-- this is the number of a line, where so great a number can be said: an Err says that it is 2^64 or more
abbrev pub Reaches : {E : Type 0} → Result ℕ E → ℕ → Type 0
Reaches (Ok line) due = line ≡ due
Reaches (Err fault) due = 2 ^ 64 ≤ due

-- these entries from this line and answer on reach as far as those from that
pub record IsLineOf (spot : Spot) (entries : List Entry) (answers : List (List (List RowValue))) (from : Spot)
    (all : List Entry) : Type 0 where
  pub same : spot.line + length (journal_lines entries (drop spot.place answers))
      ≡ from.line + length (journal_lines all (drop from.place answers))

-- from a spot an entry reaches this one, or lines that are numbered 2^64 or more
abbrev pub ReachesSpot : {E : Type 0} → Result Spot E → List Entry → List (List (List RowValue)) → Spot → List Entry
    → Type 0
ReachesSpot (Ok spot) entries answers from all = IsLineOf spot entries answers from all
ReachesSpot (Err fault) entries answers from all =
    2 ^ 64 ≤ from.line + length (journal_lines all (drop from.place answers))
