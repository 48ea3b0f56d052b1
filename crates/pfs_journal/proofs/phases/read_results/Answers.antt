use Rattle.pfs_journal.proofs.PhaseReadings.{results_read}
use Rattle.pfs_journal.proofs.phases.read_results.Goals as goal

pub returns-clause-read : goal.returns-clause-read
returns-clause-read c = results_read c.in_ok-tables.tables c.in_ok-lost.lost _ _ _ _ c.in_ok-first.first c.in_ok-tables.behind c.in_ok-lost.line c.in_ok-first.ensures.taken c.in_ok-tables.ensures.read c.in_ok-lost.ensures.read
