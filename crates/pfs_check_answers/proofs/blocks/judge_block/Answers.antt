use Rattle.std.proofs.Common.{◌+◌, drop, map, refl}
use Rattle.pfs_check_parts.specs.Parts.{pieces}
use Rattle.pfs_runs.specs.SelectAnswers.{IsAnswered}
use Rattle.pfs_check_answers.specs.BlockSelects.{selection_by}
use Rattle.pfs_check_answers.proofs.BlockWalk.{asked_line, no_end, on_line, own, wrong_line}
use Rattle.pfs_check_answers.proofs.blocks.judge_block.Goals as goal

pub returns-in_default : goal.returns-in_default
returns-in_default g c = λ all content flags before knows shows asked.
    absurd (no_end all c.args.setting.now (IsAnswered c.args.setting.now content flags before) c.args.texts.now c.args.ends.now c.args.entries.now c.args.answers.now c.args.first
    c.loop-at.at c.loop-at.spot c.index-texts-at.result c.loop-at-test.true c.in_default.ensures.lookup.3 (c.loop-at.invariant all content flags before knows shows asked))

pub returns-in-Wrong : goal.returns-in-Wrong
returns-in-Wrong g c = λ all content flags before knows shows asked.
    let answers = IsAnswered c.args.setting.now content flags before in
    let left = c.loop-at.invariant all content flags before knows shows asked in
    let low = c.loop-at-test.true in
    let few = c.in-Some.ensures.lookup.3.0 in
    let end_is = c.in-Some.ensures.lookup.1 in
    let here = asked_line all c.args.setting.now answers c.args.texts.now c.args.ends.now c.args.entries.now c.args.answers.now c.args.first c.loop-at.at c.loop-at.spot
    c.index-texts-at.result c.in-Some.end.now low few c.index-texts-at.is end_is left in
    let step = c.in_ok-step.ensures all content flags before (map selection_by (drop (c.loop-at.at + 1) c.args.texts.now))
    (own all c.args.setting.now answers c.args.texts.now c.args.ends.now c.args.entries.now c.args.answers.now c.args.first c.loop-at.at c.loop-at.spot c.in-Some.end.now)
    (pieces c.in-Some.end.now (drop (c.loop-at.at + 1) c.args.ends.now) c.args.entries.now) knows shows refl here in
    wrong_line all c.args.setting.now answers c.args.texts.now c.args.ends.now c.args.entries.now c.args.answers.now c.args.first c.loop-at.at c.loop-at.spot
    c.index-texts-at.result c.in-Some.end.now low few c.index-texts-at.is end_is left c.in-Wrong.line (rw c.in-Wrong.is at step)

pub loop-at-preserved : goal.loop-at-preserved
loop-at-preserved g c = λ all content flags before knows shows asked.
    let answers = IsAnswered c.args.setting.now content flags before in
    let left = c.loop-at.invariant all content flags before knows shows asked in
    let low = c.loop-at-test.true in
    let few = c.in-Some.ensures.lookup.3.0 in
    let end_is = c.in-Some.ensures.lookup.1 in
    let here = asked_line all c.args.setting.now answers c.args.texts.now c.args.ends.now c.args.entries.now c.args.answers.now c.args.first c.loop-at.at c.loop-at.spot
    c.index-texts-at.result c.in-Some.end.now low few c.index-texts-at.is end_is left in
    let step = c.in_ok-step.ensures all content flags before (map selection_by (drop (c.loop-at.at + 1) c.args.texts.now))
    (own all c.args.setting.now answers c.args.texts.now c.args.ends.now c.args.entries.now c.args.answers.now c.args.first c.loop-at.at c.loop-at.spot c.in-Some.end.now)
    (pieces c.in-Some.end.now (drop (c.loop-at.at + 1) c.args.ends.now) c.args.entries.now) knows shows refl here in
    on_line all c.args.setting.now answers c.args.texts.now c.args.ends.now c.args.entries.now c.args.answers.now c.args.first c.loop-at.at c.loop-at.spot
    c.index-texts-at.result c.in-Some.end.now low few c.index-texts-at.is end_is left c.in-On.next (rw c.in-On.is at step)
