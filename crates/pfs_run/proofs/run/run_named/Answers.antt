use Rattle.std.proofs.Common.{◌+◌, [], List, length, take, drop, sym, subst, ap, refl, ◌∙◌, arith}
use Rattle.std.specs.List.{All}
use Rattle.pfs_law_script.specs.Course.{numbered}
use Rattle.pfs_journal.specs.Reports.{IsPhase}
use Rattle.pfs_script.specs.declared.blocks.Phase.{Phase}
use Rattle.pfs_run.proofs.RunProgress.{parted, parted_all, taken_more, past, run_is}
use Rattle.pfs_run.proofs.RunnerState.{Stands, standing_of}
use Rattle.pfs_run.proofs.run.run_named.Goals as goal

pub loop-phase-init : goal.loop-phase-init
loop-phase-init g c = c.in_ok-runner.ensures c.args.phases.now

pub run_phase-requires-clause-here : goal.run_phase-requires-clause-here
run_phase-requires-clause-here g c =
    let phases = c.args.phases.now in
    let i = c.loop-phase.phase-index in
    let phase = c.phase-item.result in (
      take i phases,
      drop (i + 1) phases,
      parted_all phases i phase c.loop-phase-test.true c.phase-item.is,
      subst (λ (z : List Phase). Stands c.args.setting.now phases (take i phases) [] (numbered (1 + length (take i phases)) z) (standing_of g.N.Named.setting g.N.Named.change c.loop-phase.runner.actor.rows c.loop-phase.runner.actor.admin c.loop-phase.runner.progress))
          (parted phases i phase c.loop-phase-test.true c.phase-item.is) c.loop-phase.invariant,
    )

pub loop-phase-preserved : goal.loop-phase-preserved
loop-phase-preserved g c =
    let phases = c.args.phases.now in
    let i = c.loop-phase.phase-index in
    let phase = c.phase-item.result in
    let ahead = parted phases i phase c.loop-phase-test.true c.phase-item.is in
    subst (λ (z : List Phase). Stands c.args.setting.now phases z [] (numbered (1 + length z) (drop (i + 1) phases)) (standing_of g.N.Named.setting g.N.Named.change c.run_phase.new.runner.actor.rows c.run_phase.new.runner.actor.admin c.run_phase.new.runner.progress))
    (taken_more phases i phase c.loop-phase-test.true c.phase-item.is)
    (c.in-Ok.ensures (take i phases) (drop (i + 1) phases) (parted_all phases i phase c.loop-phase-test.true c.phase-item.is)
    (subst (λ (z : List Phase). Stands c.args.setting.now phases (take i phases) [] (numbered (1 + length (take i phases)) z) (standing_of g.N.Named.setting g.N.Named.change c.loop-phase.runner.actor.rows c.loop-phase.runner.actor.admin c.loop-phase.runner.progress)) ahead c.loop-phase.invariant))

pub new-requires-2 : goal.new-requires-2
new-requires-2 g c = record { format = omega arith; phases = subst (All IsPhase) (sym (c.new.ensures ∙ c.into_phases.ensures)) c.loop-phase.invariant.good }

pub returns : goal.returns
returns g c =
    let phases = c.args.phases.now in
    let p = past phases phases c.loop-phase.phase-index refl c.loop-phase-test.false in
    let run = standing_of g.N.Named.setting g.N.Named.change c.loop-phase.runner.actor.rows c.loop-phase.runner.actor.admin c.loop-phase.runner.progress in
    let stands = subst (λ (z : List Phase). Stands c.args.setting.now phases z [] (numbered (1 + length z) []) run) p.taken
    (subst (λ (z : List Phase). Stands c.args.setting.now phases (take c.loop-phase.phase-index phases) [] (numbered (1 + length (take c.loop-phase.phase-index phases)) z) run) p.dropped
    c.loop-phase.invariant) in
    run_is c.whole.ensures c.run.ensures c.all_end.ensures c.args.setting.now phases c.new-2.result run stands
    (ap (λ z. z.format) c.new-2.ensures) (ap (λ z. z.phases) c.new-2.ensures ∙ (c.new.ensures ∙ c.into_phases.ensures))
