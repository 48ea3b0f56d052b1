use Rattle.std.proofs.Common.{ℕ, ◌≡◌, ◌+◌, ◌-◌, length}
use Rattle.std.specs.List.{slice_index_or}
use Rattle.pfs_check_finals.specs.LostCounts.{no_losses}
use Rattle.pfs_check_finals.proofs.losing.Losing.reach.Given as goal

abbrev pub invariant-loop-self : goal.invariant-loop-self
invariant-loop-self l = (at : ℕ) → slice_index_or l.self.phases.items at no_losses ≡ slice_index_or l.fn.self.phases.items at no_losses

abbrev pub decreases-loop-self : goal.decreases-loop-self
decreases-loop-self l = l.phase + 1 - length l.self.phases.items
