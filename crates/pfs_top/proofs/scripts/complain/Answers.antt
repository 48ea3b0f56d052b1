use Rattle.std.proofs.Common.{refl, sym, subst, ◌∙◌}
use Rattle.pfs_outside.specs.DeviceCalls.{Rose}
use Rattle.pfs_top.specs.declared.statuses.Status.{Status}
use Rattle.pfs_top.specs.declared.statuses.Status.TheVariants.{BadScript}
use Rattle.pfs_top.specs.Commands.{HasFault, Tells}
use Rattle.pfs_top.proofs.Outcomes.{told}
use Rattle.pfs_top.proofs.scripts.complain.Goals as goal

pub returns-in-Ok : goal.returns-in-Ok
returns-in-Ok g c =
    let written = g.K.Sink.written in
    let faults = g.K.Sink.faults in
    let P = HasFault c.args.line c.args.reason in
    let t = told P (written c.args.sink.now) (written c.write_all.new.sink) (faults c.args.sink.now) (faults c.write_all.new.sink) c.deref.result.now (BadScript c.args.line c.args.reason) c.write_all.result tt (refl, refl, c.deref.ensures.value ∙ c.in-Ok.ensures) c.write_all.ensures.puts in
    subst (λ (s : Status). Tells P (written c.args.sink.now) (written c.write_all.new.sink) (Rose (faults c.args.sink.now) (faults c.write_all.new.sink)) s) (sym c.status_after.ensures) t
