use Rattle.std.proofs.Common.{◌≡◌, ◌++◌, take, drop}
use Rattle.pfs_script.specs.Marks.{copies}
use Rattle.pfs_view.proofs.texts.put_copies.Given as goal

abbrev pub invariant-loop-round : goal.invariant-loop-round
invariant-loop-round l = l.texts.items
    ≡ take l.start l.fn.texts.items ++ copies l.round (drop l.start l.fn.texts.items)
