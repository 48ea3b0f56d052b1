use Rattle.std.proofs.Common.{arith}
use Rattle.pfs_levels.proofs.RowWrites.{released}
use Rattle.pfs_levels.proofs.slots.Slots.release.Goals as goal

pub returns : goal.returns
returns c = released c.args.self.now c.self.inside.heads.items c.self.inside.contents.items c.args.at c.index-head.result.now c.self.view_is (omega (arith, c.self.invariant.wide)) c.index-head.ensures
