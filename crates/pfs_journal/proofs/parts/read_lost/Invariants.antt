use Rattle.std.proofs.Common.{length}
use Rattle.std.specs.List.{All, flat_map}
use Rattle.pfs_journal.specs.ReportPlaces.{Counters, step, Leads}
use Rattle.pfs_journal.specs.ReportReadings.{IsRead}
use Rattle.pfs_journal.specs.Reports.{IsLost}
use Rattle.pfs_journal.specs.Spelling.{lost_text}
use Rattle.pfs_journal.proofs.parts.read_lost.Given as goal

abbrev pub invariant-counters : goal.invariant-counters
invariant-counters l = (IsRead (flat_map lost_text l.counters.items) (All IsLost l.counters.items) l.initial.line l.initial.lines.rest.now l.line l.lines.rest.now) × (Leads (step Counters l.initial.line) l.initial.lines.rest.now l.initial.lines.taken (step Counters l.line) l.lines.rest.now l.lines.taken)

abbrev pub decreases-counters : goal.decreases-counters
decreases-counters l = length l.lines.rest.now
