use Rattle.std.proofs.Common.{sym, ◌∙◌, arith}
use Rattle.pfs_check_parts.proofs.CutSteps.{cut_stops, cut_goes, cut_end, stop_err, stop_ok}
use Rattle.pfs_check_parts.proofs.cuts.cut_at.Goals as goal

pub returns-then-not-stop-clause-stop : goal.returns-then-not-stop-clause-stop
returns-then-not-stop-clause-stop c =
    let stops = stop_err c.step_at-stop.result c.args.entries.now c.if-not-stop.true in
    sym c.loop-item.invariant.same
    ∙ cut_stops c.args.items.now c.loop-item.item-index _ _ _ c.loop-item-test.true (c.step_at-stop.ensures.stop ∙ stops)
    ∙ sym stops

pub loop-item-preserved : goal.loop-item-preserved
loop-item-preserved c =
    let goes = stop_ok c.step_at-stop.result c.args.entries.now c.if-not-stop.false in
    record {
      same = sym (cut_goes c.args.items.now c.loop-item.item-index _ _ _ c.loop-item-test.true
          (c.step_at-stop.ensures.stop ∙ goes)) ∙ c.loop-item.invariant.same;
      within = c.step_at-stop.ensures.within;
      onward = omega arith;
    }

pub returns-clause-stop : goal.returns-clause-stop
returns-clause-stop c = sym c.loop-item.invariant.same
    ∙ cut_end c.args.items.now c.loop-item.item-index _ c.loop-item-test.false
