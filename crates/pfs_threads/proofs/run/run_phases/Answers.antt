use Rattle.std.proofs.Common.{◌+◌, List, drop, take, sym, subst, ap, ◌∙◌, arith}
use Rattle.std.specs.List.{All}
use Rattle.pfs_journal.specs.Reports.{IsPhase}
use Rattle.pfs_threads.proofs.PhaseByPhase.{before_phase, behind_phase, has_recorded, is_run, whole_is}
use Rattle.pfs_threads.proofs.run.run_phases.Goals as goal

pub run_phase-requires-clause-here : goal.run_phase-requires-clause-here
run_phase-requires-clause-here g c κs within =
    let phases = c.args.phases.now in
    let i = c.loop-phase.phase-index in
    let phase = c.phase-item.result in (
      take i phases,
      drop (i + 1) phases,
      whole_is phases i phase c.loop-phase-test.true c.phase-item.is,
      before_phase c.args.setting.now phases _ _ _ _ _ i phase c.loop-phase-test.true c.phase-item.is c.loop-phase.invariant,
    )

pub loop-phase-preserved : goal.loop-phase-preserved
loop-phase-preserved g c =
    let phases = c.args.phases.now in
    let i = c.loop-phase.phase-index in
    let phase = c.phase-item.result in
    behind_phase c.args.setting.now phases _ _ _ _ _ i phase c.loop-phase-test.true c.phase-item.is
    (c.in-Ok.ensures (take i phases) (drop (i + 1) phases) (whole_is phases i phase c.loop-phase-test.true c.phase-item.is)
    (before_phase c.args.setting.now phases _ _ _ _ _ i phase c.loop-phase-test.true c.phase-item.is c.loop-phase.invariant))

pub loop-phase-init : goal.loop-phase-init
loop-phase-init g c = rw c.new.ensures.items (rw c.in_ok-empty_seats.ensures c.requires.begun)

pub new-report-requires : goal.new-report-requires
new-report-requires g c = record { format = omega arith; phases = subst (All IsPhase) (sym c.new-2.ensures) c.loop-phase.invariant.good }

pub returns-clause-run : goal.returns-clause-run
returns-clause-run g c =
    is_run c.args.setting.now c.args.phases.now g.N.Shared.switches _ _ _ _ c.loop-phase.phase-index c.loop-phase-test.false c.loop-phase.invariant _ (ap (λ z. z.phases) c.new-report.ensures ∙ c.new-2.ensures) c.run.ensures (ap (λ z. z.format) c.new-report.ensures)

pub returns-clause-store : goal.returns-clause-store
returns-clause-store g c =
    has_recorded c.args.setting.now c.args.phases.now g.N.Shared.switches _ _ _ _ c.loop-phase.phase-index c.loop-phase-test.false c.loop-phase.invariant _ (ap (λ z. z.phases) c.new-report.ensures ∙ c.new-2.ensures) g.N.Named.setting _ c.requires.setting c.into_seats.ensures.same
    c.into_seats.ensures.opened
