use Rattle.std.proofs.Common.{◌≡◌, ◌+◌, length, take}
use Rattle.std.specs.List.{flat_map}
use Rattle.pfs_journal.specs.ReportLines.{phase_lines}
use Rattle.pfs_runs.specs.Runs.{AreFinal}
use Rattle.pfs_check_faults.specs.Judgements.{LostOf}
use Rattle.pfs_check_faults.specs.ReportCases.{Case, Findings}
use Rattle.pfs_check_finals.proofs.LostCases.{AreLostUp, IsLostCase}
use Rattle.pfs_check_finals.proofs.lost.judge_lost.Given as goal

abbrev pub invariant-loop-at : goal.invariant-loop-at
invariant-loop-at l = record {
  line : l.line ≡ 2 + length (flat_map phase_lines (take l.at l.phases));
  so_far : AreLostUp l.counted.items l.so_far l.at;
  kept : (case : Case) → (found : Findings) → IsLostCase l.setting l.cuts l.fn.report l.orders case found
      → AreFinal (LostOf case found) (take l.at l.phases);
}
