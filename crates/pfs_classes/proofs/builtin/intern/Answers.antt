use Rattle.pfs_names.proofs.Ids.{interned_is}
use Rattle.pfs_classes.proofs.builtin.intern.Goals as goal

pub returns-in-Ok-clause-ok : goal.returns-in-Ok-clause-ok
returns-in-Ok-clause-ok c = interned_is c.args.names.now c.intern.new.self c.args.text.now c.in-Ok.ensures.ok
