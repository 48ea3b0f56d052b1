use Rattle.pfs_levels.proofs.PlainCalls.{at_put}
use Rattle.pfs_levels.proofs.plain.PlainRowsHold.put.Goals as goal

pub returns-clause-call : goal.returns-clause-call
returns-clause-call c = λ start calls at. at_put _ _ _ _ start.flags calls c.args.row c.version-version.result c.args.content.now c.requires.known c.args.self.now.room.slots_wide c.requires.held c.version-version.ensures c.publish.ensures at
