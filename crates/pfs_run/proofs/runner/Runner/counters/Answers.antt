use Rattle.std.proofs.Common.{sym}
use Rattle.pfs_run.proofs.runner.Runner.counters.Goals as goal

pub returns-clause-containers : goal.returns-clause-containers
returns-clause-containers g c = λ start calls led. sym (c.lost-lost.ensures start calls led)
