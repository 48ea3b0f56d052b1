use Rattle.pfs_names.proofs.Lookups.{names_from_agrees}
use Rattle.pfs_names.proofs.interned.Names.count.Goals as goal

-- the look-up finds one place for each text
pub returns-clause-names : goal.returns-clause-names
returns-clause-names c = rw (← c.self.view_is) (names_from_agrees _ _ c.self.invariant)
