use Rattle.pfs_levels.specs.Moves.{targets_of}
use Rattle.pfs_levels.proofs.MoveLists.{moved_one, given_none, due_none, due_all}
use Rattle.pfs_levels.proofs.moves.move_up.Goals as goal

pub returns-then-found-eq0-clause-moved : goal.returns-then-found-eq0-clause-moved
returns-then-found-eq0-clause-moved g c = moved_one _ _ _ _ _ _ _ _ _ _ (due_none c.empty-found.result (targets_of c.args.to.now) c.if-found-eq0.true) c.empty-found.ensures.emptied (given_none _ _ _ _)

pub returns-clause-moved : goal.returns-clause-moved
returns-clause-moved g c = moved_one _ _ _ _ _ _ _ _ _ _ (due_all c.empty-found.result (targets_of c.args.to.now) c.if-found-eq0.false) c.empty-found.ensures.emptied c.give_all.ensures.given
