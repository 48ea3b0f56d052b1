use Rattle.pfs_classes.proofs.NameKinds.{kind_is_exact}
use Rattle.pfs_classes.proofs.laws.computed_kind.Goals as goal

pub returns : goal.returns
returns c = kind_is_exact c.one_kind.ensures
