use Rattle.pfs_threads.proofs.PhaseByPhase.{IsAt}
use Rattle.pfs_threads.proofs.run.run_phases.Given as goal

abbrev pub invariant-loop-phase : goal.invariant-loop-phase
invariant-loop-phase g l = IsAt l.setting l.phases g.N.Shared.switches l.run.root l.run.seats.items l.run.lost l.run.phases.items l.phase-index
