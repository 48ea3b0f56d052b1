use Rattle.pfs_tables.specs.PlaceTables.{consumer_rows}
use Rattle.pfs_tables.proofs.plain.put_consumers.Goals as goal

pub returns-then-word-eq0 : goal.returns-then-word-eq0
unfolding consumer_rows
returns-then-word-eq0 c = rw c.if-word-eq0.true c.put_each.ensures
