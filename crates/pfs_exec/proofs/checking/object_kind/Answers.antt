use Rattle.pfs_exec.proofs.ObjectNames.{kind_is}
use Rattle.pfs_exec.proofs.checking.object_kind.Goals as goal

pub returns : goal.returns
returns c = kind_is c.args.text.now c.find.result c.find.ensures
