use Rattle.std.proofs.Common.{◌≡◌, drop}
use Rattle.std.specs.Prelude.{find}
use Rattle.pfs_tables.specs.PlaceTables.{loads}
use Rattle.pfs_tables.proofs.rows.flags_at.Given as goal

abbrev pub invariant-loop-reading : goal.invariant-loop-reading
invariant-loop-reading l = find (loads l.word) l.readings ≡ find (loads l.word) (drop l.reading-index l.readings)
