use Rattle.std.proofs.Common.{List, subst}
use Rattle.std.proofs.lemmas.Result.{IfOk-weaker}
use Rattle.pfs_runs.specs.Runs.{IsPlainRun}
use Rattle.pfs_script.specs.declared.blocks.Phase.{Phase}
use Rattle.pfs_top.proofs.runs.run_in_turn.Goals as goal

pub returns : goal.returns
returns c =
    let text = c.requires.0 in
    let setting = c.args.script.now.setting in
    let phases = c.args.script.now.phases in
    IfOk-weaker c.run_plain.result _ _ (λ report plain.
    let run = subst (λ (z : List Phase). IsPlainRun setting z report) c.as_slice.ensures plain in
    record {
      counted = record {
        run = run.run;
        counted = c.counted.ensures text setting phases report c.requires.1 run.run;
        digested = c.digested.ensures text setting phases report c.requires.1 run.run;
        histories = c.histories.ensures text setting phases report c.requires.1 run.run;
        currents = c.currents.ensures text setting phases report c.requires.1 run.run;
        longs = c.longs.ensures text setting phases report c.requires.1 run.run;
        lost_digests = c.lost_digests.ensures text setting phases report c.requires.1 run.run;
      };
      plain = run.plain;
    }) c.run_plain.ensures
