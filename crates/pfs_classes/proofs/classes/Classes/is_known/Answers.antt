use Rattle.std.proofs.Common.{◌∙◌}
use Rattle.pfs_classes.proofs.RegistryLemmas.{known_is}
use Rattle.pfs_classes.proofs.classes.Classes.is_known.Goals as goal

pub returns : goal.returns
returns c = c.is_some.ensures ∙ known_is c.args.self.now c.args.name c.find.result c.find.ensures
