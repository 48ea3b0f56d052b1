use Rattle.std.proofs.Common.{◌≡◌, ◌<◌, ℕ, false, length, slice_index_or}
use Rattle.pfs_readsets.specs.TablePlaces.{scope_of, has_cell}
use Rattle.pfs_readsets.proofs.places.cells_of.Given as goal

abbrev pub invariant-loop-cell : goal.invariant-loop-cell
invariant-loop-cell l = (length l.cells ≡ 64) × ((cell : ℕ) → cell < l.cell → slice_index_or l.cells cell false ≡ has_cell (scope_of l.setting) l.table cell)
