use Rattle.std.proofs.Common.{◌-◌, ◌≤◌, length}
use Rattle.pfs_digest.proofs.WordSearch.{AreLess, AreGreater}
use Rattle.pfs_digest.proofs.keywords.find_word.Given as goal

-- the word is none of those before `low` and none of those from `high` on
abbrev pub invariant-loop-low : goal.invariant-loop-low
invariant-loop-low l = record {
  within : l.high ≤ length l.keywords;
  less : AreLess (λ keyword. keyword.now) l.keywords l.word l.low;
  greater : AreGreater (λ keyword. keyword.now) l.keywords l.word l.high;
}

abbrev pub decreases-loop-low : goal.decreases-loop-low
decreases-loop-low l = l.high - l.low
