use Rattle.std.proofs.Common.{◌≡◌, ◌++◌}
use Rattle.std.specs.List.{flat_map, range_with_len}
use Rattle.pfs_gen.specs.GeneratedScript.{connect_line}
use Rattle.pfs_gen.proofs.script.put_connects.Given as goal

abbrev pub invariant-loop-below : goal.invariant-loop-below
invariant-loop-below l = l.out.items ≡ l.fn.out.items ++ flat_map connect_line (range_with_len 1 l.below)
