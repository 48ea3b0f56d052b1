use Rattle.pfs_levels.proofs.PlainCalls.{at_free}
use Rattle.pfs_levels.proofs.plain.PlainRowsHold.free.Goals as goal

pub returns-clause-call : goal.returns-clause-call
returns-clause-call c = λ v mine start calls at. at_free _ _ _ _ start.flags calls c.args.row v c.requires.known c.args.self.now.room.slots_wide mine c.release.ensures at
