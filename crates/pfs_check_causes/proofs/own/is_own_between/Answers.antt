use Rattle.std.proofs.Common.{sym, ◌∙◌, subst}
use Rattle.pfs_check_floors.specs.KnownFloors.{Tells}
use Rattle.pfs_check_causes.specs.OwnVersions.{HasBetween}
use Rattle.pfs_check_causes.proofs.RangeFacts.{first_key, range_tells}
use Rattle.pfs_check_causes.proofs.own.is_own_between.Goals as goal

pub returns : goal.returns
returns c =
    subst (Tells (HasBetween c.args.made.now c.args.session c.args.row c.args.first c.args.last))
    (first_key _ c.range-between.result _ c.next.result c.next.ensures.steps ∙ sym c.is_some.ensures)
    (range_tells c.args.made.now c.args.session c.args.row c.args.first c.args.last c.range-between.result (c.range-between.ensures.in_range tt))
