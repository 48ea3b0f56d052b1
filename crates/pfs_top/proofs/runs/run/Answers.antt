use Rattle.std.proofs.Common.{None, ap}
use Rattle.pfs_top.specs.Commands.{HasBadInput, HasInput, HasReport, RunOn}
use Rattle.pfs_top.proofs.Outcomes.{tells_as, tells_on, ends_as, ends_told, input_ran, bad_told, read_whole, unscripted}
use Rattle.pfs_top.proofs.runs.run.Goals as goal

pub returns-in-Ok-clause-ends : goal.returns-in-Ok-clause-ends
returns-in-Ok-clause-ends g c =
    let left = g.S.Source.left c.args.source.now in
    let Ran = RunOn c.report_at_once.result.store in
    let setting = c.in-Ok.script.setting in
    let phases = c.in-Ok.script.phases in
    let status = c.report_at_once.result.status in
    let still = c.in-Ok.ensures.still in
    let told = tells_as (HasReport Ran setting phases) (HasInput Ran left) _ _ _ status (input_ran Ran left setting phases c.in-Ok.ensures.script) c.report_at_once.ensures.told in
    ends_told (Unit {0}) (HasInput Ran left) _ _ _ _ status (tells_on (HasInput Ran left) _ _ _ _ _ _ status (ap g.K.Sink.written still) (ap g.K.Sink.faults still) told)

pub returns-in-Ok-clause-reads : goal.returns-in-Ok-clause-reads
returns-in-Ok-clause-reads g c =
    read_whole (RunOn c.report_at_once.result.store) c.in-Ok.script.setting c.in-Ok.script.phases g.S.Source.left g.S.Source.faults _ _ _ _ _ c.report_at_once.result.status c.in-Ok.ensures.whole c.report_at_once.ensures.told

pub returns-in-Err-clause-ends : goal.returns-in-Err-clause-ends
returns-in-Err-clause-ends g c =
    let left = g.S.Source.left c.args.source.now in
    ends_as (Unit {0}) (Unit {0}) (HasBadInput left) (HasInput (RunOn None) left) _ _ _ _ c.in-Err.status (λ any. any) (bad_told (RunOn None) left) c.in-Err.ensures.told

pub returns-in-Err-clause-store : goal.returns-in-Err-clause-store
returns-in-Err-clause-store g c =
    unscripted (g.S.Source.left c.args.source.now) _ _ _ _ c.in-Err.status c.in-Err.ensures.told
