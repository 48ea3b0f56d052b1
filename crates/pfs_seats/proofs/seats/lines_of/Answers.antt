use Rattle.std.proofs.Common.{ap, arith}
use Rattle.pfs_seats.proofs.SessionLengths.{lines_own, depth_more}
use Rattle.pfs_seats.proofs.seats.lines_of.Goals as goal

pub lines_in-lines-requires : goal.lines_in-lines-requires
lines_in-lines-requires c =
    let m = depth_more c.args.number c.args.phases.now c.loop-phase.phase-index c.phase-item.result c.loop-phase-test.true c.phase-item.is in
    let same = ap (lines_own c.args.number) c.as_slice.ensures in
    record { few = omega (arith, m.few, same, c.requires.few) }

pub overflow_add-lines : goal.overflow_add-lines
overflow_add-lines c =
    let m = depth_more c.args.number c.args.phases.now c.loop-phase.phase-index c.phase-item.result c.loop-phase-test.true c.phase-item.is in
    let same = ap (lines_own c.args.number) c.as_slice.ensures in
    omega (arith, m.few, same, c.lines_in-lines.ensures, c.loop-phase.invariant, c.requires.few)

pub loop-phase-preserved : goal.loop-phase-preserved
loop-phase-preserved c =
    let m = depth_more c.args.number c.args.phases.now c.loop-phase.phase-index c.phase-item.result c.loop-phase-test.true c.phase-item.is in
    let same = ap (lines_own c.args.number) c.as_slice.ensures in
    omega (arith, m.more, same, c.lines_in-lines.ensures, c.loop-phase.invariant)
