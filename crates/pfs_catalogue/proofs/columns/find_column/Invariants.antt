use Rattle.std.proofs.Common.{◌≡◌, ◌<◌, ℕ, false, slice_get}
use Rattle.std.specs.Option.{option_map_or}
use Rattle.pfs_catalogue.specs.Columns.{columns_of, has_name}
use Rattle.pfs_catalogue.proofs.columns.find_column.Given as goal

-- no column that was passed has the name
abbrev pub invariant-loop-place : goal.invariant-loop-place
invariant-loop-place l = (k : ℕ) → k < l.place → option_map_or (has_name l.name) (slice_get (columns_of l.table) k) false ≡ false
