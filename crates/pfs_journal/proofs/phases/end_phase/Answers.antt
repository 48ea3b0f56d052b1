use Rattle.pfs_journal.proofs.PhaseReadings.{phase_ends}
use Rattle.pfs_journal.proofs.phases.end_phase.Goals as goal

pub returns-clause-ends : goal.returns-clause-ends
returns-clause-ends c = phase_ends c.new.result _ c.args.lines.now.rest.now _ c.in_ok-tables.line c.new.ensures c.requires c.in_ok-tables.ensures.shorter c.in_ok-tables.ensures.read
