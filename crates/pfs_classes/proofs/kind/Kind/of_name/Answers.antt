use Rattle.pfs_classes.proofs.NameKinds.{kind_is}
use Rattle.pfs_classes.proofs.kind.Kind.of_name.Goals as goal

pub returns-clause-value : goal.returns-clause-value
returns-clause-value c = kind_is c.args.name.now c.find_kind.result c.find_kind.ensures.kind c.find_kind.ensures.only
