use Rattle.std.proofs.Common.{arith, length-drop}
use Rattle.std.proofs.lemmas.List.{take_rest}
use Rattle.pfs_outside.proofs.SinkWrites.{added_take, part_of_take, rose_before}
use Rattle.pfs_outside.proofs.writing.write_all.Goals as goal

pub loop-at-preserved : goal.loop-at-preserved
loop-at-preserved g c =
    let i = c.loop-at.invariant in
    let t = c.in-Bytes.ensures.taken in
    (omega (arith, t.1, length-drop c.loop-at.at c.args.text.now), added_take _ _ _ c.args.text.now c.loop-at.at c.in-Bytes.n i.1 (rw take_rest at t.2), omega (arith, i.2, c.in-Bytes.ensures.cause))

pub returns-in-Failed-clause-puts : goal.returns-in-Failed-clause-puts
returns-in-Failed-clause-puts g c =
    let i = c.loop-at.invariant in
    let f = c.in-Failed.ensures in
    (rw f.taken (part_of_take _ _ c.args.text.now c.loop-at.at i.1), rose_before _ _ _ i.2 f.cause.1, omega (arith, i.2, f.cause.0))
