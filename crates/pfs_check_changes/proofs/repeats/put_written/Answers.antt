use Rattle.std.proofs.Common.{◌++◌, ◌+◌, drop, subst}
use Rattle.std.proofs.lemmas.List.{drop_all}
use Rattle.std.specs.List.{flat_map}
use Rattle.pfs_runs.specs.ScriptLines.{changes_on}
use Rattle.pfs_script.specs.Marks.{written_out}
use Rattle.pfs_check_lines.proofs.ListPlaces.{parted}
use Rattle.pfs_check_changes.specs.WrittenActions.{IsWrittenBy}
use Rattle.pfs_check_changes.proofs.StandingNumbers.{all_by, grows_none, grows_on, started_by}
use Rattle.pfs_check_changes.proofs.repeats.put_written.Goals as goal

pub loop-line-init : goal.loop-line-init
loop-line-init c =
    (λ made stand. started_by c.args.changes.now.items c.args.numbers.now.items made c.args.said.now stand, grows_none c.args.changes.now.items)

pub loop-line-preserved : goal.loop-line-preserved
loop-line-preserved c = (
  λ made stand.
      let whole = made ++ flat_map changes_on (written_out c.args.said.now) in
      c.in_ok-repeat.ensures.own whole (drop (c.loop-line.line-index + 1) c.args.said.now)
      (subst (IsWrittenBy whole c.loop-line.repeat c.loop-line.changes.items c.loop-line.numbers.items)
      (parted c.args.said.now c.loop-line.line-index c.line-item.result c.loop-line-test.true c.line-item.is) (c.loop-line.invariant.0 made stand)),
  grows_on c.args.changes.now.items c.loop-line.changes.items c.put_next.new.changes.items c.loop-line.invariant.1 c.in_ok-repeat.ensures.grows,
)

pub returns-clause-own : goal.returns-clause-own
returns-clause-own c = λ made stand.
    let whole = made ++ flat_map changes_on (written_out c.args.said.now) in
    all_by whole c.loop-line.repeat c.loop-line.changes.items c.loop-line.numbers.items
    (subst (IsWrittenBy whole c.loop-line.repeat c.loop-line.changes.items c.loop-line.numbers.items)
    (drop_all c.loop-line.line-index c.args.said.now c.loop-line-test.false) (c.loop-line.invariant.0 made stand))

pub returns-clause-grows : goal.returns-clause-grows
returns-clause-grows c = c.loop-line.invariant.1
