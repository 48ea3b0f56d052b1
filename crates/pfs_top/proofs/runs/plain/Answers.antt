use Rattle.std.proofs.Common.{ap}
use Rattle.pfs_law_summaries.specs.SummaryLaws.{IsPlainCountedRun}
use Rattle.pfs_top.specs.Commands.{HasBadInput, HasInput, HasReport}
use Rattle.pfs_top.proofs.Outcomes.{tells_as, tells_on, ends_as, ends_told, input_ran, bad_told, read_whole}
use Rattle.pfs_top.proofs.runs.plain.Goals as goal

pub returns-in-Ok-clause-ends : goal.returns-in-Ok-clause-ends
returns-in-Ok-clause-ends g c =
    let left = g.S.Source.left c.args.source.now in
    let setting = c.in-Ok.script.setting in
    let phases = c.in-Ok.script.phases in
    let status = c.report_in_turn.result in
    let still = c.in-Ok.ensures.still in
    let told = tells_as (HasReport IsPlainCountedRun setting phases) (HasInput IsPlainCountedRun left) _ _ _ status (input_ran IsPlainCountedRun left setting phases c.in-Ok.ensures.script) c.report_in_turn.ensures in
    ends_told (Unit {0}) (HasInput IsPlainCountedRun left) _ _ _ _ status (tells_on (HasInput IsPlainCountedRun left) _ _ _ _ _ _ status (ap g.K.Sink.written still) (ap g.K.Sink.faults still) told)

pub returns-in-Ok-clause-reads : goal.returns-in-Ok-clause-reads
returns-in-Ok-clause-reads g c =
    read_whole IsPlainCountedRun c.in-Ok.script.setting c.in-Ok.script.phases g.S.Source.left g.S.Source.faults _ _ _ _ _ c.report_in_turn.result c.in-Ok.ensures.whole c.report_in_turn.ensures

pub returns-in-Err-clause-ends : goal.returns-in-Err-clause-ends
returns-in-Err-clause-ends g c =
    let left = g.S.Source.left c.args.source.now in
    ends_as (Unit {0}) (Unit {0}) (HasBadInput left) (HasInput IsPlainCountedRun left) _ _ _ _ c.in-Err.status (λ any. any) (bad_told IsPlainCountedRun left) c.in-Err.ensures.told
