use Rattle.std.proofs.Common.{length}
use Rattle.pfs_journal.specs.ReportPlaces.{Journal, step, Leads}
use Rattle.pfs_journal.specs.ReportReadings.{IsJournalRead}
use Rattle.pfs_journal.proofs.parts.read_journal.Given as goal

abbrev pub invariant-entries : goal.invariant-entries
invariant-entries l = (IsJournalRead l.entries.entries l.answers.items l.initial.line l.initial.lines.rest.now l.line l.lines.rest.now) × (Leads (step (Journal 0) l.initial.line) l.initial.lines.rest.now l.initial.lines.taken (step (Journal 0) l.line) l.lines.rest.now l.lines.taken)

abbrev pub decreases-entries : goal.decreases-entries
decreases-entries l = length l.lines.rest.now
