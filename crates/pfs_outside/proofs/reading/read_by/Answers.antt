use Rattle.std.proofs.Common.{◌≤◌, ◌++◌, length, take, arith, length-append}
use Rattle.std.proofs.lemmas.List.{length-take-le}
use Rattle.pfs_outside.proofs.SourceReads.{took_more}
use Rattle.pfs_outside.proofs.reading.read_by.Goals as goal

-- what came of the last read was taken too
pub returns-in-Err : goal.returns-in-Err
returns-in-Err g c =
    let i = c.loop-source.invariant in
    let read = c.in-Bytes.ensures in
    let n = c.in-Bytes.n in
    let came = take n c.read.new.buffer in
    let some : n ≤ length c.read.new.buffer = omega (arith, read.moved.1, c.read.auto.buffer) in
    record {
      bytes = c.loop-source.bytes.items ++ came;
      took = took_more g.S.Source.left g.S.Source.faults _ _ _ c.loop-source.bytes.items came i.1 read.moved.2 read.cause;
      within = omega (arith, i.0, c.loop-source-test.true, read.moved.1, length-take-le n c.read.new.buffer some, length-append c.loop-source.bytes.items came);
    }
