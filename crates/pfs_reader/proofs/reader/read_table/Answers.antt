use Rattle.std.proofs.Common.{◌≡◌, ◌+◌, [], ◌∷◌, ◌++◌, length, ap, ◌∙◌, arith}
use Rattle.std.proofs.lemmas.List.{length-append}
use Rattle.pfs_readsets.specs.TablePlaces.{scope_of}
use Rattle.pfs_readsets.specs.ReadSets.{target_of}
use Rattle.pfs_reader.proofs.Readings.{front, more_left, goes_then, kept_then, on_err}
use Rattle.pfs_reader.proofs.reader.read_table.Goals as goal

pub loop-reading-smaller : goal.loop-reading-smaller
loop-reading-smaller g c =
    let items = c.loop-reading.readings.items in
    let few = more_left (scope_of c.args.setting.now) c.args.table items (target_of c.in-Some.reading) (c.in-Some.ensures.next (scope_of c.args.setting.now) c.args.table items c.loop-reading.invariant.reached) in
    let more : length c.push.new.self.items ≡ length items + 1 = ap length c.in_ok-push.ensures.items ∙ length-append items (c.in-Some.reading ∷ []) in
    omega (arith, few, more)

pub loop-reading-preserved : goal.loop-reading-preserved
loop-reading-preserved g c =
    let items = c.loop-reading.readings.items in
    rw c.in_ok-push.ensures.items (record {
      reached = c.in-Some.ensures.reached (scope_of c.args.setting.now) c.args.table items c.loop-reading.invariant.reached;
      calls = goes_then items (c.in-Some.reading ∷ []) (g.R.Readable.seen c.args.rows.now).reached (g.R.Readable.seen c.loop-reading.rows).reached (g.R.Readable.seen c.next.new.rows).reached c.loop-reading.invariant.calls c.in-Some.ensures.call;
      kept = kept_then _ _ _ c.loop-reading.invariant.kept c.in-Some.ensures.kept;
    })

pub returns-in_err-push-clause-front : goal.returns-in_err-push-clause-front
returns-in_err-push-clause-front g c =
    let items = c.loop-reading.readings.items in
    let reached = c.in-Some.ensures.reached (scope_of c.args.setting.now) c.args.table items c.loop-reading.invariant.reached in
    on_err c.from_residual.result (items ++ c.in-Some.reading ∷ [], front c.next.new.self (scope_of c.args.setting.now) c.args.table (items ++ c.in-Some.reading ∷ []) reached, goes_then items (c.in-Some.reading ∷ []) (g.R.Readable.seen c.args.rows.now).reached (g.R.Readable.seen c.loop-reading.rows).reached (g.R.Readable.seen c.next.new.rows).reached c.loop-reading.invariant.calls c.in-Some.ensures.call)

pub returns-clause-read : goal.returns-clause-read
returns-clause-read g c = rw c.new.ensures (c.in_default.ensures.next (scope_of c.args.setting.now) c.args.table c.loop-reading.readings.items c.loop-reading.invariant.reached)
