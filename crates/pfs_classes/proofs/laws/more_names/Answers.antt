use Rattle.pfs_classes.proofs.BuiltinLemmas.{comes_more}
use Rattle.pfs_classes.proofs.laws.more_names.Goals as goal

pub returns : goal.returns
returns c = comes_more
