use Rattle.pfs_law_threads.proofs.Runs.{run_at_once}
use Rattle.pfs_law_threads.proofs.laws.run.Goals as goal

pub returns : goal.returns
returns c = run_at_once c.facts.ensures c.run.ensures c.agreed.ensures c.ends.ensures c.joined.ensures c.nearby.ensures c.shown.ensures
