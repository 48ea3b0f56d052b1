use Rattle.std.proofs.Common.{◌≡◌, ◌++◌, take}
use Rattle.pfs_summaries.specs.RowValues.{numbers_row}
use Rattle.pfs_summaries.proofs.numbers.put_numbers.Given as goal

abbrev pub invariant-loop-number : goal.invariant-loop-number
invariant-loop-number l = l.values.items ≡ l.fn.values.items ++ numbers_row (take l.number-index l.numbers)
