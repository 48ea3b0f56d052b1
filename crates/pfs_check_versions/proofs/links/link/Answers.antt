use Rattle.std.proofs.Common.{refl, arith}
use Rattle.pfs_check_versions.proofs.LinkSteps.{left_low, link_all, link_breaks, link_more}
use Rattle.pfs_check_versions.proofs.links.link.Goals as goal

pub count_to-requires-clause-low : goal.count_to-requires-clause-low
count_to-requires-clause-low c =
    left_low c.args.changes.now c.loop-place.place c.loop-place.next _ c.loop-place-test.true c.loop-place.invariant.left

pub returns-then-not-is_linked : goal.returns-then-not-is_linked
returns-then-not-is_linked c =
    link_breaks c.args.changes.now c.count_to.new.counts c.loop-place.made c.in_ok-next.next c.loop-place.place
    (record { line = 0; phase = 0; session = 0; change = record { row = 0; version = 0 } }) c.is_linked.result c.loop-place-test.true
    c.in_ok-next.ensures c.is_linked.ensures c.if-not-is_linked.true c.loop-place.invariant.linked c.loop-place.invariant.kept

pub loop-place-preserved : goal.loop-place-preserved
loop-place-preserved c =
    link_more c.args.changes.now c.count_to.new.counts c.loop-place.made c.mark.new.made c.in_ok-next.next c.loop-place.place
    (record { line = 0; phase = 0; session = 0; change = record { row = 0; version = 0 } }) c.is_linked.result c.loop-place-test.true c.requires
    c.in_ok-next.ensures c.is_linked.ensures c.if-not-is_linked.false c.in_ok-mark.ensures c.loop-place.invariant.linked c.loop-place.invariant.kept

pub returns : goal.returns
returns c =
    link_all c.args.changes.now c.loop-place.made _ c.loop-place.place refl c.loop-place-test.false (omega (arith, c.loop-place.auto.place-end))
    c.loop-place.invariant.linked c.loop-place.invariant.kept
