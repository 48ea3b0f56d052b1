use Rattle.std.proofs.Common.{refl, sym, subst}
use Rattle.pfs_law_load.specs.LoadText.{load_text}
use Rattle.pfs_outside.specs.DeviceCalls.{Rose}
use Rattle.pfs_top.specs.declared.statuses.Status.{Status}
use Rattle.pfs_top.specs.declared.statuses.Status.TheVariants.{Done}
use Rattle.pfs_top.specs.Commands.{HasSummaries, Tells}
use Rattle.pfs_top.proofs.Outcomes.{told}
use Rattle.pfs_top.proofs.loads.show_summaries.Goals as goal

pub returns-in-Ok : goal.returns-in-Ok
returns-in-Ok g c =
    let written = g.K.Sink.written in
    let faults = g.K.Sink.faults in
    let P = HasSummaries c.args.script.now.setting c.args.script.now.phases in
    let t = told P (written c.args.sink.now) (written c.put_load.new.sink) (faults c.args.sink.now) (faults c.put_load.new.sink) (load_text c.in-Ok.recorded.report) Done c.put_load.result tt (c.in-Ok.recorded.report, c.parts.ensures.good, c.in-Ok.ensures.0, refl) c.put_load.ensures in
    subst (λ (s : Status). Tells P (written c.args.sink.now) (written c.put_load.new.sink) (Rose (faults c.args.sink.now) (faults c.put_load.new.sink)) s) (sym c.status_after.ensures) t
