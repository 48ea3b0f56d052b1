use Rattle.std.proofs.Common.{refl, ◌∙◌, ap, not}
use Rattle.pfs_check_reached.proofs.ShelfFacts.{all_kept, told_one}
use Rattle.pfs_check_reached.proofs.shelves.shelf_of.Goals as goal

pub loop-one-preserved : goal.loop-one-preserved
loop-one-preserved c =
    told_one c.args.changes.now c.args.reached.kept c.loop-one.one-index _ c.told.result c.loop-one-test.true c.told.ensures
    (c.is_none.ensures ∙ ap not c.if-is_none.false) c.loop-one.invariant

pub returns : goal.returns
returns c =
    all_kept c.args.changes.now c.args.reached (record { kept = c.args.reached.kept }) c.loop-one.one-index c.loop-one-test.false refl c.loop-one.invariant
