use Rattle.std.proofs.Common.{◌≡◌, ◌≤◌, ◌≢◌, ◌∙◌, ap, sym, subst, map, length, Contains, arith}
use Rattle.std.specs.List.{insert, prefix_len}
use Rattle.pfs_matching.specs.KeyedRows.{AreRows, comes_before, with_row}
use Rattle.pfs_matching.proofs.KeyedRows.{AreRows-with_row, place-le, with_row-insert}
use Rattle.pfs_matching.proofs.keyed_rows.KeyedRows.insert.Goals as goal

pub insert-requires : goal.insert-requires
insert-requires g c =
    let least : prefix_len (λ other. comes_before g.R.KeyedRow.key other c.args.row) c.self.inside.rows.items ≤ length c.self.inside.rows.items = place-le g.R.KeyedRow.key c.args.row c.self.inside.rows.items in
    let place : c.place_for-place.result ≡ prefix_len (λ other. comes_before g.R.KeyedRow.key other c.args.row) c.self.inside.rows.items = c.place_for-place.ensures ∙ ap (λ rs. prefix_len (λ other. comes_before g.R.KeyedRow.key other c.args.row) rs) c.deref-2.ensures.value in
    omega arith

-- the rows after the insertion
pub returns-clause-ok : goal.returns-clause-ok
returns-clause-ok g c =
    let place : c.place_for-place.result ≡ prefix_len (λ other. comes_before g.R.KeyedRow.key other c.args.row) c.self.inside.rows.items = c.place_for-place.ensures ∙ ap (λ rs. prefix_len (λ other. comes_before g.R.KeyedRow.key other c.args.row) rs) c.deref-2.ensures.value in
    let items : c.insert.new.self.items ≡ insert c.self.inside.rows.items c.place_for-place.result c.args.row = c.in-Ok.ensures.items in
    items ∙ ap (λ p. insert c.self.inside.rows.items p c.args.row) place ∙ with_row-insert g.R.KeyedRow.key c.args.row c.self.inside.rows.items ∙ ap (λ rs. with_row g.R.KeyedRow.key c.args.row rs) c.self.view_is

pub invariant_of-self : goal.invariant_of-self
invariant_of-self g c =
    let place : c.place_for-place.result ≡ prefix_len (λ other. comes_before g.R.KeyedRow.key other c.args.row) c.self.inside.rows.items = c.place_for-place.ensures ∙ ap (λ rs. prefix_len (λ other. comes_before g.R.KeyedRow.key other c.args.row) rs) c.deref-2.ensures.value in
    let items : c.insert.new.self.items ≡ insert c.self.inside.rows.items c.place_for-place.result c.args.row = c.in-Ok.ensures.items in
    let now : c.insert.new.self.items ≡ with_row g.R.KeyedRow.key c.args.row c.self.inside.rows.items = items ∙ ap (λ p. insert c.self.inside.rows.items p c.args.row) place ∙ with_row-insert g.R.KeyedRow.key c.args.row c.self.inside.rows.items in
    let absent : ¬ Contains (map g.R.KeyedRow.key c.self.inside.rows.items) (g.R.KeyedRow.key c.args.row) = λ has. let found = c.if-has_key.ensures.1 (subst (λ rs. Contains (map g.R.KeyedRow.key rs) (g.R.KeyedRow.key c.args.row)) (sym c.deref.ensures.value) has) in cc in
    let room : length c.self.inside.rows.items ≢ 100 = omega arith in
    (subst (λ rs. AreRows g.R.KeyedRow.key rs) (sym now) (AreRows-with_row g.R.KeyedRow.key c.args.row c.self.inside.rows.items c.self.invariant.0 absent room), omega arith)
