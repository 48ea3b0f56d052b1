use Rattle.pfs_gen.proofs.Draws.{step_wrapped}
use Rattle.pfs_gen.proofs.numbers.step.Goals as goal

pub returns : goal.returns
returns c = step_wrapped c.args.state
