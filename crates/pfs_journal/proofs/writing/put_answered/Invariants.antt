use Rattle.pfs_journal.proofs.WrittenFits.{Rests}
use Rattle.pfs_journal.proofs.WrittenJournals.{Leaves}
use Rattle.pfs_journal.proofs.writing.put_answered.Given as goal

abbrev pub invariant-loop-at : goal.invariant-loop-at
invariant-loop-at g l =
    Leaves (g.K.Sink.written l.fn.sink) (g.K.Sink.written l.sink) (g.K.Sink.faults l.fn.sink) (g.K.Sink.faults l.sink) l.entries l.answers l.at l.place
    × Rests l.entries l.answers l.at l.place
