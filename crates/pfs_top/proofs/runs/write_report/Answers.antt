use Rattle.std.proofs.Common.{sym, subst}
use Rattle.pfs_outside.specs.DeviceCalls.{Rose}
use Rattle.pfs_top.specs.declared.statuses.Status.{Status}
use Rattle.pfs_top.specs.Commands.{Writes}
use Rattle.pfs_top.proofs.Outcomes.{writes}
use Rattle.pfs_top.proofs.runs.write_report.Goals as goal

pub returns : goal.returns
returns g c =
    let written = g.K.Sink.written in
    let faults = g.K.Sink.faults in
    let before = written c.args.sink.now in
    let after = written c.write.new.sink in
    let old = faults c.args.sink.now in
    let now = faults c.write.new.sink in
    subst (λ (s : Status). Writes c.args.report.now before after (Rose old now) s) (sym c.status_after.ensures) (writes c.args.report.now before after old now c.write.result c.parts.ensures.good c.write.ensures.fits c.write.ensures.puts)
