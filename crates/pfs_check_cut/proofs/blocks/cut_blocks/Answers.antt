use Rattle.std.proofs.Common.{arith}
use Rattle.pfs_check_cut.proofs.BlockSteps.{block_extra, block_fault, block_missing, block_taken, blocks_end, blocks_over, blocks_refused, opening}
use Rattle.pfs_check_cut.proofs.blocks.cut_blocks.Goals as goal

pub loop-place-init : goal.loop-place-init
loop-place-init c = λ earlier are. opening earlier c.args.phase c.args.line c.args.saids.now c.args.reports.now _ _
    c.new-blocks.ensures.items are

pub returns-then-place-reports : goal.returns-then-place-reports
returns-then-place-reports c = λ earlier are. block_missing earlier c.args.phase c.args.line c.args.saids.now
    c.args.reports.now _ _ c.loop-place.place c.loop-place.end c.index-saids-place.result (c.loop-place.invariant earlier are)
    c.loop-place-test.true c.if-place-reports.true

pub returns-in-Err : goal.returns-in-Err
returns-in-Err c = λ earlier are. block_fault earlier c.args.phase c.args.line c.args.saids.now c.args.reports.now _ _ _ _
    c.loop-place.place c.loop-place.end c.index-saids-place.result c.index-reports-place.result c.in-Err.fault (c.loop-place.invariant earlier are)
    c.loop-place-test.true c.if-place-reports.false c.index-saids-place.is c.index-reports-place.is
    (c.in-Err.ensures _ (c.loop-place.invariant earlier are).trails_are)

pub returns-in_err-next-in-Ok : goal.returns-in_err-next-in-Ok
returns-in_err-next-in-Ok c = λ earlier are. blocks_refused earlier c.args.phase c.args.line c.args.saids.now c.args.reports.now _ c.cut_block.new.trails c.from_residual.ensures.1

pub returns-in_err-push-in-Ok : goal.returns-in_err-push-in-Ok
returns-in_err-push-in-Ok c = λ earlier are. blocks_refused earlier c.args.phase c.args.line c.args.saids.now c.args.reports.now _ c.cut_block.new.trails c.from_residual-in_err-push-in-Ok.ensures.1

pub loop-place-preserved : goal.loop-place-preserved
loop-place-preserved c = λ earlier are.
    let under = c.loop-place.invariant earlier are in
    let block = c.in-Ok.ensures _ under.trails_are in
    rw c.in_ok-push-in-Ok.ensures.items (block_taken earlier c.args.phase c.args.line c.args.saids.now c.args.reports.now _
    c.in-Ok.block _ _ c.loop-place.place c.loop-place.end _ c.index-saids-place.result c.index-reports-place.result under c.loop-place-test.true
    c.if-place-reports.false c.index-saids-place.is c.index-reports-place.is block.0 block.1 c.in_ok-next-in-Ok.ensures)

pub returns-then-saids-reports : goal.returns-then-saids-reports
returns-then-saids-reports c = λ earlier are. block_extra earlier c.args.phase c.args.line c.args.saids.now
    c.args.reports.now _ _ c.loop-place.place c.loop-place.end (c.loop-place.invariant earlier are)
    c.loop-place-test.false (omega arith)

pub returns : goal.returns
returns c = λ earlier are.
    let under = c.loop-place.invariant earlier are in (
      under.trails_are,
      blocks_over earlier c.args.phase c.args.line c.args.saids.now c.args.reports.now _ _ c.loop-place.place c.loop-place.end
          under c.loop-place-test.false (omega arith),
      blocks_end earlier c.args.phase c.args.line c.args.saids.now c.args.reports.now _ _ c.loop-place.place c.loop-place.end
          under (omega arith),
    )
