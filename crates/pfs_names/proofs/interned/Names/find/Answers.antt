use Rattle.std.proofs.Common.{◌∙◌}
use Rattle.pfs_names.proofs.Lookups.{found_from_agrees}
use Rattle.pfs_names.proofs.interned.Names.find.Goals as goal

-- the look-up agrees with the texts
pub returns : goal.returns
returns c = rw (← c.self.view_is) (found_from_agrees _ c.self.inside.ids c.args.text.now c.copied.result c.self.invariant (c.copied.ensures ∙ c.get.ensures.value))
