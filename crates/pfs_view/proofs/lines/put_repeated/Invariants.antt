use Rattle.std.proofs.Common.{◌≡◌, ◌++◌, replicate}
use Rattle.pfs_view.proofs.lines.put_repeated.Given as goal

abbrev pub invariant-loop-done : goal.invariant-loop-done
invariant-loop-done l = l.out.items ≡ l.initial.out.items ++ replicate l._done l.byte
