use Rattle.std.proofs.Common.{◌≡◌, ◌<◌, ℕ, false, get_or}
use Rattle.std.specs.Str.{bytes_eq}
use Rattle.pfs_rows.specs.declared.table.Table.TheVariants.{SetupActors}
use Rattle.pfs_rows.specs.Tables.{table_name}
use Rattle.pfs_view.proofs.phases.table_named.Given as goal

-- no table that was passed has the name
abbrev pub invariant-loop-table : goal.invariant-loop-table
invariant-loop-table l = (k : ℕ) → k < l.table-index → bytes_eq (table_name (get_or l.tables k SetupActors)) l.name ≡ false
