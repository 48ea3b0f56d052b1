use Rattle.pfs_board_root.proofs.ReadCalls.{load_on}
use Rattle.pfs_board_root.proofs.readings.ReadingReadable.load.Goals as goal

pub returns-clause-call : goal.returns-clause-call
returns-clause-call g c = λ start calls h.
    let l = c.load.ensures in
    load_on _ g.W.Began.was c.args.self.now.root c.load.new.self start calls h c.args.word c.load.result.0 c.load.result.1 c.requires l.wide l.later l.seen l.words
    l.tables.0 l.tables.1 l.tables.2 l.others.0 l.others.1
