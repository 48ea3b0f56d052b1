use Rattle.std.proofs.Common.{◌≡◌, map, take, vec_len, vec_capacity}
use Rattle.std.specs.Slots.{slots_items}
use Rattle.pfs_switches.specs.OpeningWords.{parts}
use Rattle.pfs_switches.proofs.words.hand_back.Given as goal

abbrev pub invariant-loop-i : goal.invariant-loop-i
invariant-loop-i g l = record {
  rows : l.rows.items ≡ map parts (take l.i (slots_items l.closed.words));
  len : vec_len l.rows ≡ l.i;
  room : vec_capacity l.rows ≡ vec_capacity l.initial.rows;
}
