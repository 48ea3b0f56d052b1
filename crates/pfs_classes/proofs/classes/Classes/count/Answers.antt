use Rattle.std.proofs.Common.{arith}
use Rattle.pfs_classes.proofs.RegistryLemmas.{few_within}
use Rattle.pfs_classes.proofs.classes.Classes.count.Goals as goal

pub returns-clause-few : goal.returns-clause-few
returns-clause-few c =
    omega (arith, c.len.ensures, c.self.inside.classes.ok, few_within c.self.inside.limits c.self.inside.classes.items c.self.invariant.in_range c.self.invariant.within)

pub returns-clause-within : goal.returns-clause-within
returns-clause-within c = rw (← c.self.view_is) c.self.invariant.within
