use Rattle.std.proofs.Common.{arith}
use Rattle.pfs_test_board.proofs.refusals.refuse_on_a_board.Goals as goal

pub come_late-requires-clause-left : goal.come_late-requires-clause-left
come_late-requires-clause-left g c = (omega (arith, c.split-first.ensures.left, c.refuse-refused.ensures.left), omega (arith, c.split-second.ensures.left))
