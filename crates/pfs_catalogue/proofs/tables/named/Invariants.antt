use Rattle.std.proofs.Common.{◌≡◌, ◌<◌, ℕ, false, get_or}
use Rattle.pfs_rows.specs.declared.table.Table.TheVariants.{SetupActors}
use Rattle.pfs_rows.specs.Tables.{table_name}
use Rattle.pfs_catalogue.specs.LetterCases.{is_same_name}
use Rattle.pfs_catalogue.proofs.tables.named.Given as goal

-- no table that was passed has the name
abbrev pub invariant-loop-table : goal.invariant-loop-table
invariant-loop-table l = (k : ℕ) → k < l.table-index → is_same_name (table_name (get_or l.tables k SetupActors)) l.bare ≡ false
