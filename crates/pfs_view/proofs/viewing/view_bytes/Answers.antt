use Rattle.std.proofs.Common.{refl, sym, subst}
use Rattle.pfs_outside.specs.DeviceCalls.{Rose}
use Rattle.pfs_view.specs.Views.{HasView, IsRefusedAt, Tells}
use Rattle.pfs_view.specs.declared.viewing.Status.{Status}
use Rattle.pfs_view.specs.declared.viewing.Status.TheVariants.{Done}
use Rattle.pfs_view.proofs.Outcomes.{told, tells_as}
use Rattle.pfs_view.proofs.WrongLines.{refused_viewed}
use Rattle.pfs_view.proofs.viewing.view_bytes.Goals as goal

pub returns-in-Ok : goal.returns-in-Ok
returns-in-Ok g c =
    let written = g.K.Sink.written in
    let faults = g.K.Sink.faults in
    let shown = g.R.Rendering.text c.args.rendering.now in
    let P = HasView shown c.args.script.now c.args.bytes.now in
    let t = told P (written c.args.sink.now) (written c.put.new.sink) (faults c.args.sink.now) (faults c.put.new.sink) (shown c.args.script.now c.in-Ok.report) Done c.put.result tt (c.in-Ok.report, c.in-Ok.ensures.report, refl) c.put.ensures in
    subst (λ (s : Status). Tells P (written c.args.sink.now) (written c.put.new.sink) (Rose (faults c.args.sink.now) (faults c.put.new.sink)) s) (sym c.status_after.ensures) t

pub returns-in-Err-Bad : goal.returns-in-Err-Bad
returns-in-Err-Bad g c =
    let shown = g.R.Rendering.text c.args.rendering.now in
    let script = c.args.script.now in
    let bytes = c.args.bytes.now in
    let wrong = rw c.in-Err-Bad.field-0-is at c.in-Err-Bad.ensures.wrong in
    tells_as (IsRefusedAt script bytes c.in-Err-Bad.at) (HasView shown script bytes) _ _ _ c.refuse.result (refused_viewed shown script bytes c.in-Err-Bad.at wrong) c.refuse.ensures
