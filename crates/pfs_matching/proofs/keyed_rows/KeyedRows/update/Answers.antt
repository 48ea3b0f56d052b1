use Rattle.std.proofs.Common.{◌≤◌, sym, subst}
use Rattle.pfs_matching.specs.KeyedRows.{AreRows}
use Rattle.pfs_matching.proofs.NamedPlaces.{AreRows-with_named_changed}
use Rattle.pfs_matching.proofs.keyed_rows.KeyedRows.update.Goals as goal

-- flags are no part of a key
pub invariant_of-self : goal.invariant_of-self
invariant_of-self g c = (
  subst (λ rs. AreRows g.R.KeyedRow.key rs) (sym c.change_places.ensures.rows) (AreRows-with_named_changed g.R.KeyedRow.key (g.R.KeyedRow.changed c.args.change.now) (λ row. g.met.R.KeyedRow.keeps c.args.change.now row) c.self.inside.rows.items c.args.keys.now c.self.invariant.0),
  subst (λ n. 100 ≤ n) (sym c.change_places.ensures.room) c.self.invariant.1,
)
