use Rattle.std.proofs.Common.{◌++◌, map, drop}
use Rattle.pfs_script.specs.Marks.{written_out}
use Rattle.pfs_runs.specs.ScriptLines.{line_in}
use Rattle.pfs_check_lines.specs.WrittenLines.{IsWritten}
use Rattle.pfs_check_lines.proofs.repeats.put_written.Given as goal

abbrev pub invariant-loop-line : goal.invariant-loop-line
invariant-loop-line l = IsWritten (l.fn.lines.items ++ map line_in (written_out l.said)) l.repeat l.lines.items
    (drop l.line-index l.said)
