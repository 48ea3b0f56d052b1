use Rattle.std.proofs.Common.{ℕ, ◌≡◌, ◌<◌, [], length}
use Rattle.std.specs.List.{sum_by}
use Rattle.pfs_levels.specs.RowHeads.{head_at, slot_of, to_place, head_to_place}
use Rattle.pfs_levels.specs.PlainStore.{opening_slot}
use Rattle.pfs_levels.proofs.slots.Slots.opening.Given as goal

abbrev pub invariant-loop-row : goal.invariant-loop-row
invariant-loop-row l =
    record {
      wide : length l.heads.items ≡ l.row;
      each : (r : ℕ) → r < l.row → slot_of [] (head_at l.heads.items r) ≡ opening_slot r;
      nowhere : (r : ℕ) → r < l.row → to_place (head_at l.heads.items r).home ≡ 1;
      unplaced : sum_by head_to_place l.heads.items ≡ l.row;
    }
