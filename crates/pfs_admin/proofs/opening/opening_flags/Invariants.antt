use Rattle.std.proofs.Common.{◌≡◌, map}
use Rattle.std.specs.List.{range_with_len}
use Rattle.pfs_admin.specs.OpeningState.{word_flags}
use Rattle.pfs_admin.proofs.opening.opening_flags.Given as goal

abbrev pub invariant-loop-at : goal.invariant-loop-at
invariant-loop-at l = l.flags.items ≡ map (word_flags l.setting l.objects) (range_with_len 0 l.at)
