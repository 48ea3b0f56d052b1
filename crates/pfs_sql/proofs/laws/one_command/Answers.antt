use Rattle.pfs_sql.proofs.SaidCommands.{one_said}
use Rattle.pfs_sql.proofs.laws.one_command.Goals as goal

pub returns : goal.returns
returns c = λ text a b p q. one_said text a b p q
