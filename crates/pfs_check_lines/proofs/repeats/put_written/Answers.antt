use Rattle.std.proofs.Common.{◌++◌, ◌+◌, map, drop, subst}
use Rattle.std.proofs.lemmas.List.{drop_all}
use Rattle.pfs_runs.specs.ScriptLines.{line_in}
use Rattle.pfs_script.specs.Marks.{written_out}
use Rattle.pfs_check_lines.specs.WrittenLines.{IsWritten}
use Rattle.pfs_check_lines.proofs.ListPlaces.{parted}
use Rattle.pfs_check_lines.proofs.WrittenSteps.{all_written}
use Rattle.pfs_check_lines.proofs.repeats.put_written.Goals as goal

pub loop-line-preserved : goal.loop-line-preserved
loop-line-preserved c =
    let whole = c.args.lines.now.items ++ map line_in (written_out c.args.said.now) in
    c.in_ok-repeat.ensures whole (drop (c.loop-line.line-index + 1) c.args.said.now)
    (subst (IsWritten whole c.loop-line.repeat c.loop-line.lines.items)
    (parted c.args.said.now c.loop-line.line-index c.line-item.result c.loop-line-test.true c.line-item.is) c.loop-line.invariant)

pub returns : goal.returns
returns c =
    let whole = c.args.lines.now.items ++ map line_in (written_out c.args.said.now) in
    all_written whole c.loop-line.repeat c.loop-line.lines.items
    (subst (IsWritten whole c.loop-line.repeat c.loop-line.lines.items)
    (drop_all c.loop-line.line-index c.args.said.now c.loop-line-test.false) c.loop-line.invariant)
