use Rattle.pfs_levels.proofs.MoveLists.{moved_one, given_none, due_nobody}
use Rattle.pfs_levels.proofs.moves.clear.Goals as goal

pub returns-clause-moved : goal.returns-clause-moved
returns-clause-moved g c = moved_one _ _ _ _ _ _ _ _ _ _ (due_nobody _) c.empty.ensures.emptied (given_none _ _ _ _)
