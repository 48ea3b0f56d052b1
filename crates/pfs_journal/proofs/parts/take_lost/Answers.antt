use Rattle.pfs_journal.specs.declared.line.Line.TheVariants as says
use Rattle.pfs_journal.specs.Reports.{IsLost}
use Rattle.pfs_journal.specs.Spelling.{lost_text}
use Rattle.pfs_journal.proofs.PartReadings.{take_line, lost_line}
use Rattle.pfs_journal.proofs.ReaderStops.{passed}
use Rattle.pfs_journal.proofs.parts.take_lost.Goals as goal

pub returns-clause-grows : goal.returns-clause-grows
returns-clause-grows c = take_line lost_text IsLost c.args.counters.now.items c.push.new.list.items c.args.lost (says.Lost c.args.lost) c.args.lines.now.rest.now c.next.new.lines.rest.now c.next.result (lost_line c.args.lost) c.in_ok-push.ensures.pushed c.requires c.next.ensures.taken

pub returns-in_err-push-clause-stops : goal.returns-in_err-push-clause-stops
returns-in_err-push-clause-stops c = passed c.from_residual.result c.in_err-push.field-0.0 _ _ c.from_residual.ensures (λ at none. absurd none) c.in_err-push.ensures.memory
