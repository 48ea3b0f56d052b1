use Rattle.std.proofs.Common.{sym, subst}
use Rattle.pfs_classes.specs.Registry.{Registry}
use Rattle.pfs_classes.specs.Settings.{ComesFrom, set}
use Rattle.pfs_classes.proofs.classes.Classes.set.Goals as goal

pub returns-clause-come : goal.returns-clause-come
returns-clause-come c texts comes = subst (λ (r : Registry). ComesFrom texts r) (sym c.set_flags.ensures) (set c.args.self.now c.args.id c.args.enabled c.args.timed comes c.requires)
