use Rattle.std.proofs.Common.{List, ℕ, subst, take}
use Rattle.pfs_outside.specs.DeviceCalls.{Rose}
use Rattle.pfs_view.specs.Views.{HasView, Tells}
use Rattle.pfs_view.proofs.viewing.view_input.Goals as goal

pub returns : goal.returns
returns g c =
    let shown = g.R.Rendering.text c.args.rendering.now in
    let written = g.K.Sink.written in
    let faults = g.K.Sink.faults in
    let before = c.args.sink.now in
    let after = c.view_bytes.new.sink in
    let count = c.args.script_bytes in
    subst (λ (back : List ℕ). Tells (HasView shown (take count c.args.bytes.now) back) (written before) (written after) (Rose (faults before) (faults after)) c.view_bytes.result) c.cut.ensures.back
    (subst (λ (front : List ℕ). Tells (HasView shown front c.cut.result.1.now) (written before) (written after) (Rose (faults before) (faults after)) c.view_bytes.result) c.cut.ensures.front c.view_bytes.ensures)
