use Rattle.std.proofs.Common.{◌-◌, ◌∙◌, arith}
use Rattle.pfs_check_answers.proofs.PartEntries.{one_more}
use Rattle.pfs_check_answers.proofs.block_lines.entries_between.Goals as goal

pub loop-step-preserved : goal.loop-step-preserved
loop-step-preserved c =
    c.in_ok-push.ensures.items
    ∙ one_more c.args.entries.now c.args.start (c.args.end - c.args.start) c.loop-step.part.items c.loop-step.step c.entry.result
    (omega (arith, c.loop-step-test.true, c.count_between-step-end.ensures)) c.entry.ensures c.loop-step.invariant
