use Rattle.pfs_journal.specs.declared.line.Line.TheVariants as says
use Rattle.pfs_journal.specs.Reports.{IsRow}
use Rattle.pfs_journal.specs.Spelling.{row_text}
use Rattle.pfs_journal.proofs.PartReadings.{take_line, row_line}
use Rattle.pfs_journal.proofs.ReaderStops.{passed}
use Rattle.pfs_journal.proofs.parts.take_row.Goals as goal

pub returns-clause-grows : goal.returns-clause-grows
returns-clause-grows c = take_line row_text IsRow c.args.rows.now.items c.push.new.list.items c.args.row (says.Row c.args.row) c.args.lines.now.rest.now c.next.new.lines.rest.now c.next.result (row_line c.args.row) c.in_ok-push.ensures.pushed c.requires c.next.ensures.taken

pub returns-in_err-push-clause-stops : goal.returns-in_err-push-clause-stops
returns-in_err-push-clause-stops c = passed c.from_residual.result c.in_err-push.field-0.0 _ _ c.from_residual.ensures (λ at none. absurd none) c.in_err-push.ensures.memory
