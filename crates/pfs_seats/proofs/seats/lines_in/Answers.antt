use Rattle.std.proofs.Common.{ap, arith, length}
use Rattle.pfs_seats.proofs.SessionLengths.{lines_more, lines_same, lines_other}
use Rattle.pfs_seats.proofs.seats.lines_in.Goals as goal
use Rattle.pfs_seats.proofs.seats.lines_in.Goals.{then-block-number, else-block-number}

pub overflow_add-lines : goal.overflow_add-lines
overflow_add-lines c =
    let m = lines_more c.args.number c.args.blocks.now c.loop-block.block-index c.block-item.result c.loop-block-test.true c.block-item.is in
    let own = lines_same c.args.number c.block-item.result c.if-block-number.true in
    let lines = ap length c.as_slice.ensures in
    omega (arith, m.few, own, lines, c.loop-block.invariant, c.requires.few)

pub loop-block-preserved : goal.loop-block-preserved
loop-block-preserved c =
    let m = lines_more c.args.number c.args.blocks.now c.loop-block.block-index c.block-item.result c.loop-block-test.true c.block-item.is in
    elim c.if-block-number.branch [
      | then-block-number w ↦
          let own = lines_same c.args.number c.block-item.result w.if-block-number.true in
          let lines = ap length w.as_slice.ensures in
          omega (arith, m.more, own, lines, c.loop-block.invariant, w.lines-is)
      | else-block-number w ↦
          let other = lines_other c.args.number c.block-item.result w.if-block-number.false in
          omega (arith, m.more, other, c.loop-block.invariant, w.lines-is)
    ]
