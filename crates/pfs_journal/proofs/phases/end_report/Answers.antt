use Rattle.std.proofs.Common.{◌+◌, sym, ◌∙◌, refl}
use Rattle.pfs_journal.specs.ReportPlaces.{capped}
use Rattle.pfs_journal.proofs.PartReadings.{not_empty}
use Rattle.pfs_journal.proofs.ReaderStops.{bad_at, ended_stops}
use Rattle.pfs_journal.proofs.phases.end_report.Goals as goal

pub returns-else-is_empty-clause-stops : goal.returns-else-is_empty-clause-stops
returns-else-is_empty-clause-stops c =
    bad_at c.next_is_wrong.result (capped (c.args.lines.now.taken + 1)) _ c.next_is_wrong.ensures
    (ended_stops c.args.lines.now.rest.now (c.args.lines.now.taken + 1) (capped (c.args.lines.now.taken + 1)) (not_empty c.args.lines.now.rest.now (sym c.is_empty.ensures ∙ c.if-is_empty.false)) refl)
