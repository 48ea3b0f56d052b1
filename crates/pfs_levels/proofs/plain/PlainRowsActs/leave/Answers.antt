use Rattle.pfs_levels.proofs.PlainActions.{at_leave}
use Rattle.pfs_levels.proofs.plain.PlainRowsActs.leave.Goals as goal

pub returns-clause-call : goal.returns-clause-call
returns-clause-call c = λ start calls at. at_leave _ _ _ _ start.flags calls c.content.result.now c.args.self.now.room.slots_wide c.requires.inside c.content.ensures c.publish.ensures at
