use Rattle.pfs_levels.proofs.PlainCalls.{at_take}
use Rattle.pfs_levels.proofs.plain.PlainRowsHold.take.Goals as goal

pub returns-clause-call : goal.returns-clause-call
returns-clause-call c = λ start calls at. at_take _ _ _ _ start.flags calls c.args.row c.version-version.result c.content-content.result.now c.requires.known c.args.self.now.room.slots_wide c.requires.away c.version-version.ensures c.content-content.ensures c.hold.ensures at
