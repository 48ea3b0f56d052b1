use Rattle.std.proofs.Common.{length}
use Rattle.std.specs.List.{All, flat_map}
use Rattle.pfs_journal.specs.ReportPlaces.{Results, step, Leads}
use Rattle.pfs_journal.specs.ReportReadings.{IsRead}
use Rattle.pfs_journal.specs.Reports.{IsTable}
use Rattle.pfs_journal.specs.Spelling.{table_text}
use Rattle.pfs_journal.proofs.parts.read_tables.Given as goal

abbrev pub invariant-tables : goal.invariant-tables
invariant-tables l = (IsRead (flat_map table_text l.tables.items) (All IsTable l.tables.items) l.initial.line l.initial.lines.rest.now l.line l.lines.rest.now) × (Leads (step Results l.initial.line) l.initial.lines.rest.now l.initial.lines.taken (step Results l.line) l.lines.rest.now l.lines.taken)

abbrev pub decreases-tables : goal.decreases-tables
decreases-tables l = length l.lines.rest.now
