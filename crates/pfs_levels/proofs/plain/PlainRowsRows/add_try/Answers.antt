use Rattle.pfs_levels.proofs.PlainCalls.{at_add}
use Rattle.pfs_levels.proofs.plain.PlainRowsRows.add_try.Goals as goal

pub returns-clause-call : goal.returns-clause-call
returns-clause-call c = λ start calls at. at_add _ _ _ _ start.flags calls c.args.row c.args.amount.now c.version-version.result c.requires.cell c.args.self.now.room.slots_wide c.requires.away c.version-version.ensures c.merge.ensures at
