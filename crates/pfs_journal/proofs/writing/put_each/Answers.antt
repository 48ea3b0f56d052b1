use Rattle.std.proofs.Common.{ℕ, List, ◌≤◌, ◌++◌, Err, subst, sym, take, drop, ◌+◌, arith}
use Rattle.std.specs.List.{flat_map}
use Rattle.std.proofs.lemmas.List.Elements.{All-more}
use Rattle.pfs_outside.specs.DeviceCalls.{Added}
use Rattle.pfs_outside.specs.WholeStreams.{Puts}
use Rattle.pfs_outside.proofs.SinkWrites.{added_more, puts_then, puts_stop}
use Rattle.pfs_journal.proofs.WrittenParts.{flat_map_around, flat_map_more}
use Rattle.pfs_journal.proofs.writing.put_each.Goals as goal

pub loop-part-preserved : goal.loop-part-preserved
loop-part-preserved g c =
    let f = g.T.Spelled.text in
    let xs = c.args.parts.now in
    let i = c.loop-part.part-index in
    let written = g.K.Sink.written in
    let before = c.loop-part.invariant in
    let put = c.in-Ok.ensures in
    let added = added_more (written c.args.sink.now) (written c.loop-part.sink) (written c.put.new.sink) (flat_map f (take i xs)) (f c.part-item.result) before.0 put.puts.0 in
    let rose : g.K.Sink.faults c.args.sink.now ≤ g.K.Sink.faults c.put.new.sink = omega (arith, before.1, put.puts.1) in (
      subst (λ (z : List ℕ). Added (g.K.Sink.written c.args.sink.now) (g.K.Sink.written c.put.new.sink) z) (sym (flat_map_more f xs i c.part-item.result c.loop-part-test.true c.part-item.is)) added,
      rose,
      All-more g.T.Spelled.fits xs i c.part-item.result c.loop-part-test.true before.2 (subst g.T.Spelled.fits c.part-item.is put.fits),
    )

pub returns-in-Err-clause-puts : goal.returns-in-Err-clause-puts
returns-in-Err-clause-puts g c =
    let f = g.T.Spelled.text in
    let xs = c.args.parts.now in
    let i = c.loop-part.part-index in
    let written = g.K.Sink.written in
    let faults = g.K.Sink.faults in
    let behind = flat_map f (drop (i + 1) xs) in
    let before = c.loop-part.invariant in
    let stopped = puts_stop (written c.loop-part.sink) (written c.put.new.sink) (faults c.loop-part.sink) (faults c.put.new.sink) (f c.part-item.result) behind c.in-Err.stop c.in-Err.ensures.puts in
    let all = puts_then (written c.args.sink.now) (written c.loop-part.sink) (written c.put.new.sink) (faults c.args.sink.now) (faults c.loop-part.sink) (faults c.put.new.sink) (flat_map f (take i xs)) (f c.part-item.result ++ behind) (Err c.in-Err.stop) (before.0, before.1) stopped in
    subst (λ (z : List ℕ). Puts (g.K.Sink.written c.args.sink.now) (g.K.Sink.written c.put.new.sink) (g.K.Sink.faults c.args.sink.now) (g.K.Sink.faults c.put.new.sink) z (Err c.in-Err.stop)) (sym (flat_map_around f xs c.loop-part.part-index c.part-item.result c.loop-part-test.true c.part-item.is)) all
