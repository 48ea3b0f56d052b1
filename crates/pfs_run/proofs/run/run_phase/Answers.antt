use Rattle.std.proofs.Common.{◌+◌, List, take, drop, subst}
use Rattle.std.proofs.lemmas.Result.{on_ok_weaker}
use Rattle.pfs_law_script.specs.BlocksAhead.{ahead_of}
use Rattle.pfs_law_script.specs.Course.{PhasedBlock}
use Rattle.pfs_script.specs.declared.blocks.Block.{Block}
use Rattle.pfs_run.proofs.RunProgress.{there, past}
use Rattle.pfs_run.proofs.RunnerState.{Stands, behind, standing_of}
use Rattle.pfs_run.proofs.run.run_phase.Goals as goal

pub loop-block-init : goal.loop-block-init
loop-block-init g c = λ before after e a. a

pub play-requires-clause-here : goal.play-requires-clause-here
play-requires-clause-here g c =
    let phase = c.args.phase.now in
    let i = c.loop-block.block-index in
    let block = c.block-item.result in
    let h = c.requires.here in
    let t = there c.args.phases.now h.0 phase h.1 c.as_slice-block-items.result.now i block c.as_slice-block-items.ensures c.loop-block-test.true c.block-item.is h.2 in (
      h.0,
      take i phase.blocks,
      drop (i + 1) phase.blocks,
      h.1,
      t.split,
      subst (λ (z : List PhasedBlock). Stands c.args.setting.now c.args.phases.now h.0 (take i phase.blocks) z (standing_of g.N.Named.setting g.N.Named.change c.loop-block.runner.actor.rows c.loop-block.runner.actor.admin c.loop-block.runner.progress)) t.ahead (c.loop-block.invariant h.0 h.1 h.2 h.3),
    )

pub loop-block-preserved : goal.loop-block-preserved
loop-block-preserved g c =
    let phase = c.args.phase.now in
    let i = c.loop-block.block-index in
    let block = c.block-item.result in
    λ before after e a.
    (let t = there c.args.phases.now before phase after c.as_slice-block-items.result.now i block c.as_slice-block-items.ensures c.loop-block-test.true c.block-item.is e in
    subst (λ (z : List Block). Stands c.args.setting.now c.args.phases.now before z (ahead_of before (drop (i + 1) phase.blocks) after) (standing_of g.N.Named.setting g.N.Named.change c.play.new.self.actor.rows c.play.new.self.actor.admin c.play.new.self.progress)) t.first
    (c.in-Ok.ensures before (take i phase.blocks) (drop (i + 1) phase.blocks) after t.split
    (subst (λ (z : List PhasedBlock). Stands c.args.setting.now c.args.phases.now before (take i phase.blocks) z (standing_of g.N.Named.setting g.N.Named.change c.loop-block.runner.actor.rows c.loop-block.runner.actor.admin c.loop-block.runner.progress)) t.ahead (c.loop-block.invariant before after e a))))

pub end_phase-requires : goal.end_phase-requires
end_phase-requires g c =
    let phase = c.args.phase.now in
    let i = c.loop-block.block-index in
    let h = c.requires.here in
    let p = past c.as_slice-block-items.result.now phase.blocks i c.as_slice-block-items.ensures c.loop-block-test.false in
    record {
      named = c.names.ensures c.requires.script.0 c.args.setting.now c.args.phases.now c.requires.script.1;
      texts = c.texts.ensures c.requires.script.0 c.args.setting.now c.args.phases.now c.requires.script.1;
      setting = c.requires.setting;
      tables = c.table_names.ensures c.requires.script.0 c.args.setting.now c.args.phases.now c.requires.script.1;
      here = (
        c.requires.script.0,
        c.args.phases.now,
        h.0,
        phase.blocks,
        h.1,
        c.requires.script.1,
        c.requires.change,
        behind c.args.setting.now c.args.phases.now h.0 phase h.1 i (standing_of g.N.Named.setting g.N.Named.change c.loop-block.runner.actor.rows c.loop-block.runner.actor.admin c.loop-block.runner.progress) p (c.loop-block.invariant h.0 h.1 h.2 h.3),
      );
    }

pub returns : goal.returns
returns g c =
    let phase = c.args.phase.now in
    let i = c.loop-block.block-index in
    let p = past c.as_slice-block-items.result.now phase.blocks i c.as_slice-block-items.ensures c.loop-block-test.false in
    on_ok_weaker c.end_phase.result (λ ends before after e a. ends c.args.phases.now before phase.blocks after c.requires.change
    (behind c.args.setting.now c.args.phases.now before phase after i (standing_of g.N.Named.setting g.N.Named.change c.loop-block.runner.actor.rows c.loop-block.runner.actor.admin c.loop-block.runner.progress) p (c.loop-block.invariant before after e a))) c.end_phase.ensures
