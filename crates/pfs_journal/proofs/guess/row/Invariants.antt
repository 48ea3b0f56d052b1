use Rattle.std.proofs.Common.{List, ◌≡◌, length}
use Rattle.std.specs.List.{All, flat_map}
use Rattle.pfs_text.specs.declared.values.RowValue.{RowValue}
use Rattle.pfs_journal.specs.Spelling.{value_text}
use Rattle.pfs_journal.specs.LineWords.{FitsValue}
use Rattle.pfs_journal.proofs.ItemReadings.{ItemsRead}
use Rattle.pfs_journal.proofs.guess.row.Given as goal

abbrev pub invariant-loop-rest : goal.invariant-loop-rest
invariant-loop-rest l = (values : List RowValue) → All FitsValue values → l.fn.bytes ≡ flat_map value_text values → ItemsRead value_text FitsValue values l.values.items l.rest

abbrev pub decreases-loop-rest : goal.decreases-loop-rest
decreases-loop-rest l = length l.rest
