use Rattle.std.proofs.Common.{◌≡◌, ◌-◌}
use Rattle.pfs_readsets.specs.ReadSets.{passing}
use Rattle.pfs_readsets.specs.ReadProgress.{own_words}
use Rattle.pfs_readsets.proofs.read_set.ReadSet.next_word.Given as goal

abbrev pub invariant-loop-word : goal.invariant-loop-word
invariant-loop-word l = passing (own_words l.self) l.self.word (160 - l.self.word) ≡ passing (own_words l.self) l.word (160 - l.word)
