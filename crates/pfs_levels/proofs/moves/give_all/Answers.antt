use Rattle.pfs_levels.proofs.MoveLists.{given_then}
use Rattle.pfs_levels.proofs.moves.give_all.Goals as goal

pub returns-clause-given : goal.returns-clause-given
returns-clause-given g c = given_then _ _ _ _ _ _ _ _ _ _ c.give_to.ensures.given c.give_to-2.ensures.given
