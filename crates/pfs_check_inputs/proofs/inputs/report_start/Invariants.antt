use Rattle.std.proofs.Common.{ℕ, ◌<◌}
use Rattle.pfs_check_inputs.specs.Inputs.{BeginsReport}
use Rattle.pfs_check_inputs.proofs.inputs.report_start.Given as goal

abbrev pub invariant-loop-at : goal.invariant-loop-at
invariant-loop-at l = (other : ℕ) → other < l.at → BeginsReport l.bytes other → ⊥
