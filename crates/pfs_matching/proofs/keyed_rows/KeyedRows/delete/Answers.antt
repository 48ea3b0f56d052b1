use Rattle.std.proofs.Common.{◌≤◌, sym, subst}
use Rattle.pfs_matching.specs.KeyedRows.{AreRows}
use Rattle.pfs_matching.proofs.NamedPlaces.{AreRows-without_named}
use Rattle.pfs_matching.proofs.keyed_rows.KeyedRows.delete.Goals as goal

-- what stays is in order
pub invariant_of-self : goal.invariant_of-self
invariant_of-self g c = (
  subst (λ rs. AreRows g.R.KeyedRow.key rs) (sym c.remove_places.ensures.rows) (AreRows-without_named g.R.KeyedRow.key c.self.inside.rows.items c.args.keys.now c.self.invariant.0),
  subst (λ n. 100 ≤ n) (sym c.remove_places.ensures.room) c.self.invariant.1,
)
