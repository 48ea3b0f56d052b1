use Rattle.pfs_levels.proofs.PlainActions.{at_enter}
use Rattle.pfs_levels.proofs.plain.PlainRowsActs.enter.Goals as goal

pub returns-clause-call : goal.returns-clause-call
returns-clause-call c = λ start calls at. at_enter _ _ _ _ start.flags calls c.args.label c.version-version.result c.args.self.now.room.slots_wide c.requires.outside c.version-version.ensures c.hold.ensures at
