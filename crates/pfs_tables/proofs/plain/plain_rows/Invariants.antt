use Rattle.std.proofs.Common.{◌≡◌, [], take}
use Rattle.std.specs.List.{flat_map}
use Rattle.pfs_tables.specs.TableOrders.{put_rows}
use Rattle.pfs_tables.specs.PlaceTables.{rows_of}
use Rattle.pfs_tables.proofs.plain.plain_rows.Given as goal

abbrev pub invariant-loop-reading : goal.invariant-loop-reading
invariant-loop-reading l = l.rows.entries ≡ put_rows [] (flat_map (rows_of l.setting l.table l.readings) (take l.reading-index l.readings))
