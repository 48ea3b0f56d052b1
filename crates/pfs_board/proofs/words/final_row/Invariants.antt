use Rattle.std.proofs.Common.{◌≡◌, ℕ, ◌+◌, ◌*◌, ◌<◌, length, get_or}
use Rattle.std.specs.Slots.{slots_items}
use Rattle.pfs_board.proofs.words.final_row.Given as goal

abbrev pub invariant-loop-i : goal.invariant-loop-i
invariant-loop-i g l = record {
  wide : length l.content ≡ 16;
  copied : (j : ℕ) → j < l.i → get_or l.content j 0 ≡ get_or (slots_items l.closed.words) (17 * l.row + j + 1) 0;
}
