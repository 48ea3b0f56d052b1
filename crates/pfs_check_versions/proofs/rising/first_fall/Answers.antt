use Rattle.std.proofs.Common.{refl, arith}
use Rattle.pfs_check_versions.proofs.RisingSteps.{falls_here, risen_all, risen_more}
use Rattle.pfs_check_versions.proofs.rising.first_fall.Goals as goal

pub returns-then-not-is_above : goal.returns-then-not-is_above
returns-then-not-is_above c =
    falls_here c.args.changes.now c.loop-place.lasts c.loop-place.place
    (record { line = 0; phase = 0; session = 0; change = record { row = 0; version = 0 } }) c.is_above.result c.loop-place-test.true
    c.is_above.ensures c.if-not-is_above.true c.loop-place.invariant

pub loop-place-preserved : goal.loop-place-preserved
loop-place-preserved c =
    risen_more c.args.changes.now c.loop-place.lasts c.keep_last.new.lasts c.loop-place.place
    (record { line = 0; phase = 0; session = 0; change = record { row = 0; version = 0 } }) c.is_above.result c.loop-place-test.true
    c.is_above.ensures c.if-not-is_above.false c.in_ok-keep_last.ensures c.loop-place.invariant

pub returns : goal.returns
returns c =
    risen_all c.args.changes.now c.loop-place.lasts _ c.loop-place.place refl c.loop-place-test.false (omega (arith, c.loop-place.auto.place-end))
    c.loop-place.invariant
