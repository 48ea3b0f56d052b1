use Rattle.std.proofs.Common.{arith}
use Rattle.pfs_levels.proofs.RowWrites.{held}
use Rattle.pfs_levels.proofs.slots.Slots.hold.Goals as goal

pub returns : goal.returns
returns c = held c.args.self.now c.self.inside.heads.items c.self.inside.contents.items c.args.at c.index-head.result.now c.self.view_is (omega (arith, c.self.invariant.wide)) c.index-head.ensures
