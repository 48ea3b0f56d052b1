use Rattle.std.proofs.Common.{◌≡◌, ◌+◌, length, take}
use Rattle.std.specs.List.{flat_map}
use Rattle.pfs_journal.specs.ReportLines.{table_lines}
use Rattle.pfs_check_line_numbers.proofs.line_counts.behind_tables.Given as goal

abbrev pub invariant-loop-table : goal.invariant-loop-table
invariant-loop-table l = l.end ≡ l.line + length (flat_map table_lines (take l.table-index l.tables))
