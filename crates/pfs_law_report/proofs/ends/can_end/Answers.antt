use Rattle.pfs_readsets.proofs.EqualReadings.{rows_are_places}
use Rattle.pfs_law_report.proofs.EndExamples.{can_always_end}
use Rattle.pfs_law_report.proofs.ends.can_end.Goals as goal

pub returns : goal.returns
returns c = can_always_end (rows_are_places c.rows.ensures.found c.rows.ensures.back)
