use Rattle.pfs_classes.proofs.BuiltinLemmas.{row_fits}
use Rattle.pfs_classes.proofs.laws.builtin_kinds.Goals as goal

pub returns : goal.returns
returns c = row_fits
