use Rattle.std.proofs.Common.{◌≡◌, ℕ, false, get_or, below_more, sym, ◌∙◌, arith}
use Rattle.std.specs.Str.{bytes_eq}
use Rattle.pfs_catalogue.proofs.TableLookups.{found_here, found_none}
use Rattle.pfs_rows.specs.declared.table.Table.{Table}
use Rattle.pfs_rows.specs.declared.table.Table.TheVariants.{SetupActors}
use Rattle.pfs_rows.specs.Tables.{table_name}
use Rattle.pfs_view.proofs.phases.table_named.Goals as goal

pub returns-then-has_name : goal.returns-then-has_name
returns-then-has_name c = sym (found_here (λ (t : Table). bytes_eq (table_name t) c.args.name.now) c.args.tables.now c.loop-table.table-index SetupActors (omega arith) c.loop-table.invariant (sym c.has_name.ensures ∙ c.if-has_name.true))

pub loop-table-preserved : goal.loop-table-preserved
loop-table-preserved c = below_more (λ (k : ℕ). bytes_eq (table_name (get_or c.args.tables.now k SetupActors)) c.args.name.now ≡ false) c.loop-table.table-index c.loop-table.invariant (sym c.has_name.ensures ∙ c.if-has_name.false)

pub returns : goal.returns
returns c = sym (found_none (λ (t : Table). bytes_eq (table_name t) c.args.name.now) c.args.tables.now SetupActors (λ k h. c.loop-table.invariant k (omega arith)))
