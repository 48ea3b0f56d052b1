use Rattle.pfs_levels.proofs.PlainCalls.{at_set}
use Rattle.pfs_levels.proofs.plain.PlainRowsHold.set.Goals as goal

pub returns-clause-call : goal.returns-clause-call
returns-clause-call c = λ start calls at. at_set _ _ _ start.flags calls c.args.word c.args.flags c.index-found.result.now c.requires.known c.args.self.now.room.words_wide c.index-found.ensures at
