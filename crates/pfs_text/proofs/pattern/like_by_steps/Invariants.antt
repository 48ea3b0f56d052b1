use Rattle.std.proofs.Common.{◌↔◌}
use Rattle.pfs_text.specs.Patterns.{IsLike}
use Rattle.pfs_text.specs.ScanSteps.{MayFit, Stands, steps_left}
use Rattle.pfs_text.proofs.pattern.like_by_steps.Given as goal

abbrev pub invariant-loop-next : goal.invariant-loop-next
invariant-loop-next l = Stands l.pattern l.text l.scan × (IsLike l.pattern l.text ↔ MayFit l.pattern l.text l.scan)

abbrev pub decreases-loop-next : goal.decreases-loop-next
decreases-loop-next l = steps_left l.pattern l.text l.scan
