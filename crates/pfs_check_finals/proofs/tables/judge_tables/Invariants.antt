use Rattle.std.proofs.Common.{ℕ, ◌≡◌, ◌+◌, length, take}
use Rattle.std.specs.List.{flat_map}
use Rattle.pfs_journal.specs.ReportLines.{phase_lines}
use Rattle.pfs_journal.specs.declared.report.PhaseParts.{PhaseParts}
use Rattle.pfs_readsets.specs.declared.target.Target.{Target}
use Rattle.pfs_rows.specs.declared.table.Reading.{Reading}
use Rattle.pfs_runs.specs.Runs.{AreFinal}
use Rattle.pfs_check_finals.specs.EndTables.{AreDue}
use Rattle.pfs_check_finals.proofs.tables.judge_tables.Given as goal

abbrev pub invariant-loop-phase : goal.invariant-loop-phase
invariant-loop-phase g l = record {
  line : l.line ≡ 2 + length (flat_map phase_lines (take l.phase-index l.phases));
  kept : (shown : ℕ → Target → Reading) → g.S.Standing.stands l.standing shown
      → AreFinal (λ (one : PhaseParts). AreDue l.setting (shown one.number) one.tables) (take l.phase-index l.phases);
}
