use Rattle.std.proofs.Common.{◌≡◌}
use Rattle.std.specs.Prelude.{filter}
use Rattle.std.specs.List.{range_with_len}
use Rattle.pfs_readsets.specs.TablePlaces.{is_kind_cell}
use Rattle.pfs_admin.proofs.cells.cells_of_kind.Given as goal

abbrev pub invariant-loop-cell : goal.invariant-loop-cell
invariant-loop-cell l = l.cells.items ≡ filter (is_kind_cell l.classes.classes l.kind) (range_with_len 0 l.cell)
