use Rattle.std.proofs.Common.{◌+◌, ◌<◌, ℕ, length, drop, refl, ap, ◌∙◌, arith}
use Rattle.pfs_view.specs.ScriptLines.{behind_lines}
use Rattle.std.specs.Prelude.{slice_index}
use Rattle.pfs_view.proofs.LineSteps.{behind_all, behind_more}
use Rattle.pfs_view.proofs.script_lines.behind_lines.Goals as goal

pub loop-place-preserved : goal.loop-place-preserved
loop-place-preserved c =
    let text = c.args.text.now in
    let place = c.loop-place.place in
    let some : 0 < c.loop-place.left = omega (arith, c.if-left-eq0.false) in
    let within : place < length text = omega (arith, c.loop-place-test.true) in
    ap (λ (k : ℕ). behind_lines k (drop (place + 1) text)) c.left_behind-left.ensures
    ∙ behind_more c.loop-place.left c.args.count place (slice_index text place) text some within refl c.loop-place.invariant

pub returns : goal.returns
returns c = behind_all c.loop-place.left c.args.count c.loop-place.place c.args.text.now (omega arith) c.loop-place.invariant
