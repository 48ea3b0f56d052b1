use Rattle.std.proofs.Common.{List, subst}
use Rattle.std.proofs.lemmas.Result.{IfOk-weaker}
use Rattle.pfs_runs.specs.Runs.{IsRun}
use Rattle.pfs_script.specs.declared.blocks.Phase.{Phase}
use Rattle.pfs_threads.specs.Records.{HasRecorded}
use Rattle.pfs_top.proofs.Outcomes.{both_ok}
use Rattle.pfs_top.proofs.runs.run_at_once.Goals as goal

pub returns : goal.returns
returns g c =
    let text = c.requires.0 in
    let setting = c.args.script.now.setting in
    let phases = c.args.script.now.phases in
    IfOk-weaker c.run_threads.result _ _ (λ recorded both.
    let run = subst (λ (z : List Phase). IsRun setting z recorded.report) c.as_slice.ensures both.0 in
    let report = recorded.report in (
      record {
        run = run;
        counted = c.counted.ensures text setting phases report c.requires.1 run;
        digested = c.digested.ensures text setting phases report c.requires.1 run;
        histories = c.histories.ensures text setting phases report c.requires.1 run;
        currents = c.currents.ensures text setting phases report c.requires.1 run;
        longs = c.longs.ensures text setting phases report c.requires.1 run;
        lost_digests = c.lost_digests.ensures text setting phases report c.requires.1 run;
      },
      subst (λ (z : List Phase). HasRecorded setting z report recorded.store) c.as_slice.ensures both.1,
    )) (both_ok _ _ c.run_threads.result c.run_threads.ensures.run c.run_threads.ensures.store)
