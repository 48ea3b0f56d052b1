use Rattle.std.proofs.Common.{List, ◌++◌, drop}
use Rattle.std.specs.List.{flat_map}
use Rattle.pfs_admin.specs.declared.changes.Change.{Change}
use Rattle.pfs_script.specs.Marks.{written_out}
use Rattle.pfs_runs.specs.ScriptLines.{changes_on}
use Rattle.pfs_check_changes.specs.ActionNumbers.{Grows, StandFor}
use Rattle.pfs_check_changes.specs.WrittenActions.{IsWrittenBy}
use Rattle.pfs_check_changes.proofs.repeats.put_written.Given as goal

abbrev pub invariant-loop-line : goal.invariant-loop-line
invariant-loop-line l =
    ((made : List Change) → StandFor l.fn.changes.items l.fn.numbers.items made
    → IsWrittenBy (made ++ flat_map changes_on (written_out l.said)) l.repeat l.changes.items l.numbers.items (drop l.line-index l.said))
    × Grows l.fn.changes.items l.changes.items
