use Rattle.std.proofs.Common.{arith, refl}
use Rattle.pfs_journal.specs.ReportLines.{block_lines}
use Rattle.pfs_check_line_numbers.proofs.EntryNumbers.{block_found, block_long, block_passed, goes_too_far}
use Rattle.pfs_check_line_numbers.proofs.searches.seek_block.Goals as goal

pub returns-then-search-count-clause-found : goal.returns-then-search-count-clause-found
returns-then-search-count-clause-found c = block_found c.args.search c.args.block.now c.in_ok-first.first c.in_ok-line.line c.as_slice-answers.result.now _
    (omega arith) c.in_ok-first.ensures c.as_slice-answers.ensures refl c.in_ok-line.ensures

pub returns-clause-found : goal.returns-clause-found
returns-clause-found c = block_passed c.args.search c.args.block.now c.in_ok-end.end _ (omega arith) c.in_ok-end.ensures (omega arith)

pub returns-in_err-line-clause-goes : goal.returns-in_err-line-clause-goes
returns-in_err-line-clause-goes c = goes_too_far _ c.args.search (block_lines c.args.block.now) _ c.from_residual-in_err-line.ensures.1
    (block_long c.args.search c.args.block.now c.in_ok-first.first _ c.as_slice-answers.result.now c.in_ok-first.ensures
    c.as_slice-answers.ensures c.in_err-line.ensures)
