use Rattle.pfs_journal.proofs.PhaseReadings.{block_read}
use Rattle.pfs_journal.proofs.phases.read_block.Goals as goal

pub returns-clause-read : goal.returns-clause-read
returns-clause-read c = block_read c.args.session c.in_ok-entries.entries c.in_ok-entries.answers _ _ _ c.in_ok-first.first c.in_ok-entries.line c.in_ok-first.ensures.taken c.in_ok-entries.ensures.read
