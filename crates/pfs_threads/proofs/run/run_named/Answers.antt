use Rattle.pfs_threads.proofs.Openings.{opened_as, opened_run}
use Rattle.pfs_threads.proofs.run.run_named.Goals as goal

pub begin-root-requires : goal.begin-root-requires
begin-root-requires g c = opened_as g.N.Named.setting c.args.setting.now _ _ _ _ _ _ _ c.requires.setting c.in_ok-tables.ensures

pub run_phases-requires-clause-begun : goal.run_phases-requires-clause-begun
run_phases-requires-clause-begun g c κs within =
    opened_run c.begun.ensures g.N.Named.setting c.args.setting.now g.N.Named.change c.args.phases.now g.N.Shared.switches _ _ _ _ _ _ _ _ c.requires.setting c.requires.change c.in_ok-tables.ensures
    c.begin-root.ensures.settled c.begin-root.ensures.whole
