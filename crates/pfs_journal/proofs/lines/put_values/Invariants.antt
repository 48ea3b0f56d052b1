use Rattle.std.proofs.Common.{◌≡◌, ◌++◌, take}
use Rattle.std.specs.List.{All, flat_map}
use Rattle.pfs_journal.specs.Spelling.{value_text}
use Rattle.pfs_journal.specs.LineWords.{FitsValue}
use Rattle.pfs_journal.proofs.lines.put_values.Given as goal

abbrev pub invariant-loop-value : goal.invariant-loop-value
invariant-loop-value l = (l.line.items ≡ l.initial.line.items ++ flat_map value_text (take l.value-index l.values)) × (All FitsValue (take l.value-index l.values))
