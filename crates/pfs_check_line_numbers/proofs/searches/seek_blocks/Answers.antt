use Rattle.std.proofs.Common.{arith, refl}
use Rattle.std.specs.List.{flat_map}
use Rattle.pfs_journal.specs.ReportLines.{block_lines}
use Rattle.pfs_check_line_numbers.proofs.EntryNumbers.{goes_too_far, left_found, left_more, left_over}
use Rattle.pfs_check_line_numbers.proofs.LineSteps.{part_long, reach_more, reach_over}
use Rattle.pfs_check_line_numbers.proofs.searches.seek_blocks.Goals as goal

pub loop-block-init : goal.loop-block-init
loop-block-init c = record { left = λ tail. refl; line = omega arith }

pub returns-in-On-clause-found : goal.returns-in-On-clause-found
returns-in-On-clause-found c = left_found block_lines c.args.search c.loop-block.rest c.args.blocks.now c.loop-block.block-index c.block-item.result c.in-On.line
    c.loop-block-test.true c.block-item.is c.loop-block.invariant.left (rw c.in-On.is at c.in_ok-found.ensures.found)

pub loop-block-preserved : goal.loop-block-preserved
loop-block-preserved c = record {
  left = left_more block_lines c.args.search c.loop-block.rest c.in-Behind.next c.args.blocks.now c.loop-block.block-index
      c.block-item.result c.loop-block-test.true c.block-item.is c.loop-block.invariant.left (rw c.in-Behind.is at c.in_ok-found.ensures.found);
  line = reach_more block_lines c.args.search.line c.loop-block.rest.line c.in-Behind.next.line c.loop-block.block-index c.args.blocks.now
      c.block-item.result c.loop-block-test.true c.block-item.is c.loop-block.invariant.line (rw c.in-Behind.is at c.in_ok-found.ensures.goes);
}

pub returns-clause-found : goal.returns-clause-found
returns-clause-found c = left_over block_lines c.args.search c.loop-block.rest c.args.blocks.now c.loop-block.block-index c.loop-block-test.false
    c.loop-block.invariant.left

pub returns-clause-goes : goal.returns-clause-goes
returns-clause-goes c = reach_over block_lines c.args.search.line c.loop-block.rest.line c.loop-block.block-index c.args.blocks.now
    c.loop-block-test.false c.loop-block.invariant.line

pub returns-in_err-found-clause-goes : goal.returns-in_err-found-clause-goes
returns-in_err-found-clause-goes c = goes_too_far _ c.args.search (flat_map block_lines c.args.blocks.now) _ c.from_residual.ensures.1
    (part_long block_lines c.args.search.line c.loop-block.rest.line c.loop-block.block-index c.args.blocks.now c.block-item.result
    c.loop-block-test.true c.block-item.is c.loop-block.invariant.line c.in_err-found.ensures.goes)
