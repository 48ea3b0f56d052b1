use Rattle.std.proofs.Common.{ℕ, ◌≡◌, ◌-◌, length}
use Rattle.std.specs.Prelude.{All}
use Rattle.pfs_readsets.specs.ReadProgress.{Reached}
use Rattle.pfs_readsets.specs.ReadSets.{target_of}
use Rattle.pfs_readsets.specs.TablePlaces.{scope_of}
use Rattle.pfs_readsets.specs.declared.target.Target.{Target}
use Rattle.pfs_rows.specs.declared.table.Reading.{Reading}
use Rattle.pfs_check_finals.proofs.standing.read_standing.Given as goal

abbrev pub invariant-loop-target : goal.invariant-loop-target
invariant-loop-target g l = record {
  reached : Reached l.set (scope_of l.setting) l.fn.table l.readings.items;
  shown : (shown : ℕ → Target → Reading) → g.S.Standing.stands l.fn.standing shown
      → All (λ reading. reading ≡ shown l.fn.phase (target_of reading)) l.readings.items;
}

abbrev pub decreases-loop-target : goal.decreases-loop-target
decreases-loop-target g l = 14402 - length l.readings.items
