use Rattle.std.proofs.Common.{rules}
use Rattle.pfs_session.proofs.EventSteps.{looked}
use Rattle.pfs_session.proofs.session.Session.look.Goals as goal

pub returns-in-Some-clause-played : goal.returns-in-Some-clause-played
returns-in-Some-clause-played g c = looked _ _ _ _ _ (search rules) (search rules) (search rules)
