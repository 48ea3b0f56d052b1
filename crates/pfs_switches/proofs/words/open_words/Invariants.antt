use Rattle.std.proofs.Common.{◌≡◌, ◌++◌, drop}
use Rattle.pfs_switches.proofs.words.open_words.Given as goal

abbrev pub invariant-loop-flag : goal.invariant-loop-flag
invariant-loop-flag l = record {
  words : l.words.items ++ drop l.flag-index l.flags ≡ l.flags;
}
