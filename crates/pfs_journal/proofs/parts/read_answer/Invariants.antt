use Rattle.std.proofs.Common.{◌≡◌, ◌-◌, length}
use Rattle.std.specs.List.{All, flat_map}
use Rattle.pfs_journal.specs.ReportPlaces.{Journal, step, Leads}
use Rattle.pfs_journal.specs.ReportReadings.{IsRead}
use Rattle.pfs_journal.specs.Reports.{IsRow}
use Rattle.pfs_journal.specs.Spelling.{row_text}
use Rattle.pfs_journal.proofs.parts.read_answer.Given as goal

abbrev pub invariant-loop-place : goal.invariant-loop-place
invariant-loop-place l = (IsRead (flat_map row_text l.rows.items) (All IsRow l.rows.items) l.initial.line l.initial.lines.rest.now l.line l.lines.rest.now) × (length l.rows.items ≡ l.place) × (Leads (step (Journal l.number) l.initial.line) l.initial.lines.rest.now l.initial.lines.taken (step (Journal (l.number - l.place)) l.line) l.lines.rest.now l.lines.taken)
