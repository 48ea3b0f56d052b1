use Rattle.pfs_board_root.proofs.ReadCalls.{read_free, read_whole}
use Rattle.pfs_board_root.proofs.readings.ReadingReadable.read.Goals as goal

pub returns-in-Whole-clause-call : goal.returns-in-Whole-clause-call
returns-in-Whole-clause-call g c = λ start calls h.
    let l = c.in-Whole.ensures in
    read_whole _ g.W.Began.was c.args.self.now.root c.look.new.self start calls h c.args.row c.in-Whole.version c.in-Whole.content c.requires.known l.outside.2 c.args.self.now.whole l.outside.0 l.outside.1 l.seen
    l.tables.0 l.tables.1 l.tables.2 l.others.0 l.others.1

pub returns-in-Free-clause-call : goal.returns-in-Free-clause-call
returns-in-Free-clause-call g c = λ start calls h.
    let l = c.in-Free.ensures in
    read_free _ g.W.Began.was c.args.self.now.root c.look.new.self start calls h c.args.row c.in-Free.word c.requires.known l.outside.2 c.args.self.now.whole l.outside.0 l.outside.1 l.seen
    l.tables.0 l.tables.1 l.tables.2 l.others.0 l.others.1
