use Rattle.std.proofs.Common.{◌≡◌, map, take}
use Rattle.pfs_levels.specs.PlainStore.{word}
use Rattle.pfs_check_blank.proofs.opening.opening_words.Given as goal

abbrev pub invariant-loop-flag : goal.invariant-loop-flag
invariant-loop-flag l = l.words.items ≡ map (word 0) (take l.flag-index l.flags)
