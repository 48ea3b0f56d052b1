use Rattle.std.proofs.Common.{◌≡◌, ◌*◌, take, vec_len, vec_capacity}
use Rattle.std.specs.Slots.{slots_items}
use Rattle.pfs_board.specs.SeatViews.{final_words}
use Rattle.pfs_board.proofs.words.hand_back.Given as goal

abbrev pub invariant-loop-row : goal.invariant-loop-row
invariant-loop-row g l = record {
  words : final_words l.rows.items ≡ take (17 * l.row) (slots_items l.closed.words);
  len : vec_len l.rows ≡ l.row;
  room : vec_capacity l.rows ≡ vec_capacity l.initial.rows;
}
