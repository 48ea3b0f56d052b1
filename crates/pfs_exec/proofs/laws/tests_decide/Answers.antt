use Rattle.pfs_exec.proofs.ValueTests.{decides}
use Rattle.pfs_exec.proofs.laws.tests_decide.Goals as goal

pub returns : goal.returns
returns c = decides c.patterns.ensures
