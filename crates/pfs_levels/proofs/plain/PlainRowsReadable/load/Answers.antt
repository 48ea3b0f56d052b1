use Rattle.pfs_levels.proofs.PlainCalls.{at_load}
use Rattle.pfs_levels.proofs.plain.PlainRowsReadable.load.Goals as goal

pub returns-clause-call : goal.returns-clause-call
returns-clause-call c = λ start calls at. at_load _ _ _ start.flags calls c.args.word c.index-found.result.now c.requires c.args.self.now.room.words_wide c.index-found.ensures at
