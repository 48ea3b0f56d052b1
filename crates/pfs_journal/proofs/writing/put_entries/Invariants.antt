use Rattle.std.proofs.Common.{take}
use Rattle.std.specs.List.{All}
use Rattle.pfs_event.specs.declared.entry.Entry.{Entry}
use Rattle.pfs_journal.specs.declared.line.Line.TheVariants as says
use Rattle.pfs_journal.specs.LineWords.{FitsLine}
use Rattle.pfs_journal.proofs.EntryLines.{Leaving}
use Rattle.pfs_journal.proofs.writing.put_entries.Given as goal

abbrev pub invariant-loop-at : goal.invariant-loop-at
invariant-loop-at g l =
    Leaving (g.K.Sink.written l.fn.sink) (g.K.Sink.written l.sink) (g.K.Sink.faults l.fn.sink) (g.K.Sink.faults l.sink) l.entries l.at
    × All (λ (entry : Entry). FitsLine (says.Entry entry)) (take l.at l.entries)
