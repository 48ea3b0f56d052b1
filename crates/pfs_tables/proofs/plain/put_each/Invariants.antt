use Rattle.std.proofs.Common.{◌≡◌, map, take}
use Rattle.pfs_tables.specs.TableOrders.{put_rows}
use Rattle.pfs_tables.specs.PlaceTables.{consumer_row}
use Rattle.pfs_tables.proofs.plain.put_each.Given as goal

abbrev pub invariant-loop-consumer : goal.invariant-loop-consumer
invariant-loop-consumer l = l.rows.entries ≡ put_rows l.initial.rows.entries (map (consumer_row l.flags) (take l.consumer-index l.consumers))
