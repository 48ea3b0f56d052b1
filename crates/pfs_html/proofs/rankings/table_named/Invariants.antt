use Rattle.std.proofs.Common.{◌≡◌, ◌<◌, ℕ, false, get_or}
use Rattle.std.specs.Str.{bytes_eq}
use Rattle.pfs_html.proofs.PlaceLists.{no_table}
use Rattle.pfs_html.proofs.rankings.table_named.Given as goal

abbrev pub invariant-loop-table : goal.invariant-loop-table
invariant-loop-table l = (k : ℕ) → k < l.table-index → bytes_eq (get_or l.tables k no_table).name l.name ≡ false
