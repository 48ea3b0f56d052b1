use Rattle.std.proofs.Common.{◌≡◌, ◌≤◌, ◌++◌, drop}
use Rattle.pfs_board.specs.OpeningWords.{IsOpening, words_of, opening_words}
use Rattle.pfs_board.proofs.words.open_words.Given as goal

abbrev pub invariant-loop-at : goal.invariant-loop-at
invariant-loop-at g l = record {
  words : l.words.items ++ words_of (drop l.at (g.O.Openings.rows l.openings)) ≡ opening_words (g.O.Openings.rows l.openings);
  form : IsOpening l.words.items l.at;
  low : l.at ≤ l.count;
}
