use Rattle.std.proofs.Common.{◌≡◌, ◌++◌, take, drop}
use Rattle.pfs_script.specs.Marks.{copies}
use Rattle.pfs_check_lines.proofs.repeats.put_copies.Given as goal

abbrev pub invariant-loop-round : goal.invariant-loop-round
invariant-loop-round l = l.lines.items
    ≡ take l.start l.fn.lines.items ++ copies l.round (drop l.start l.fn.lines.items)
