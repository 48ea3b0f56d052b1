use Rattle.std.proofs.Common.{length}
use Rattle.std.specs.List.{All, flat_map}
use Rattle.pfs_journal.specs.ReportPlaces.{Named, step, Leads}
use Rattle.pfs_journal.specs.ReportReadings.{IsRead}
use Rattle.pfs_journal.specs.Reports.{IsRow}
use Rattle.pfs_journal.specs.Spelling.{row_text}
use Rattle.pfs_journal.proofs.ReaderStops.{rows_place}
use Rattle.pfs_journal.proofs.parts.read_rows.Given as goal

abbrev pub invariant-rows : goal.invariant-rows
invariant-rows l = (IsRead (flat_map row_text l.rows.items) (All IsRow l.rows.items) l.initial.line l.initial.lines.rest.now l.line l.lines.rest.now) × (Leads (step Named l.initial.line) l.initial.lines.rest.now l.initial.lines.taken (step (rows_place l.rows.items) l.line) l.lines.rest.now l.lines.taken)

abbrev pub decreases-rows : goal.decreases-rows
decreases-rows l = length l.lines.rest.now
