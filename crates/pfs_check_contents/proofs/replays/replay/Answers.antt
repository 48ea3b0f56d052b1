use Rattle.std.proofs.Common.{get_or, length}
use Rattle.std.proofs.lemmas.Option.{slice_get-get_or}
use Rattle.pfs_check_contents.proofs.ReplaySteps.{place_within, replay_breaks, replay_ends, replay_more}
use Rattle.pfs_check_contents.proofs.replays.replay.Goals as goal

pub loop-place-preserved : goal.loop-place-preserved
loop-place-preserved c =
    replay_more c.args.changes.now c.args.order.now c.loop-place.place-index 0 _ c.loop-place.replay c.add.new.self c.is_next.result c.loop-place-test.true
    (slice_get-get_or c.args.changes.now (get_or c.args.order.now c.loop-place.place-index 0) _
    (place_within (length c.args.changes.now) c.args.order.now c.loop-place.place-index 0 c.requires c.loop-place-test.true))
    c.loop-place.invariant c.is_next.ensures c.if-not-is_next.false c.in_ok-add.ensures

pub returns-then-not-is_next : goal.returns-then-not-is_next
returns-then-not-is_next c =
    replay_breaks c.args.changes.now c.args.order.now c.loop-place.place-index 0 _ c.loop-place.replay c.is_next.result c.loop-place-test.true
    (slice_get-get_or c.args.changes.now (get_or c.args.order.now c.loop-place.place-index 0) _
    (place_within (length c.args.changes.now) c.args.order.now c.loop-place.place-index 0 c.requires c.loop-place-test.true))
    c.loop-place.invariant c.is_next.ensures c.if-not-is_next.true

pub returns : goal.returns
returns c = replay_ends c.args.changes.now c.args.order.now c.loop-place.place-index c.loop-place.replay c.loop-place-test.false c.loop-place.invariant
