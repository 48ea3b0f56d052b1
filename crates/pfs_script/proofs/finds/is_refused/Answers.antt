use Rattle.pfs_script.proofs.StatementDigests.{bad_is}
use Rattle.pfs_script.proofs.finds.is_refused.Goals as goal

pub returns-in-Statement : goal.returns-in-Statement
returns-in-Statement c = bad_is c.args.line.now _ _ c.args.shown.now c.is_none.result c.in-Statement.is c.requires c.is_none.ensures
