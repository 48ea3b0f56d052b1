use Rattle.std.proofs.Common.{refl, sym, subst, ◌∙◌}
use Rattle.pfs_outside.specs.DeviceCalls.{Rose}
use Rattle.pfs_view.specs.Views.{IsExplained, Tells}
use Rattle.pfs_view.specs.declared.viewing.Status.{Status}
use Rattle.pfs_view.specs.declared.viewing.Status.TheVariants.{BadScript}
use Rattle.pfs_view.proofs.Outcomes.{told}
use Rattle.pfs_view.proofs.viewing.explain.Goals as goal

pub returns-in-Ok : goal.returns-in-Ok
returns-in-Ok g c =
    let written = g.K.Sink.written in
    let faults = g.K.Sink.faults in
    let line = c.args.refusal.line in
    let reason = c.args.refusal.reason in
    let P = IsExplained c.args.script.now line reason in
    let t = told P (written c.args.sink.now) (written c.write_all.new.sink) (faults c.args.sink.now) (faults c.write_all.new.sink) c.deref.result.now (BadScript line reason) c.write_all.result tt (refl, refl, c.deref.ensures.value ∙ c.in-Ok.ensures) c.write_all.ensures.puts in
    subst (λ (s : Status). Tells P (written c.args.sink.now) (written c.write_all.new.sink) (Rose (faults c.args.sink.now) (faults c.write_all.new.sink)) s) (sym c.status_after.ensures) t
