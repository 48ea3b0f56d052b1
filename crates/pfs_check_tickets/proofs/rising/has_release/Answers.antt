use Rattle.std.proofs.Common.{sym, ◌∙◌, subst}
use Rattle.pfs_check_walk.specs.NumberTests.{Tells}
use Rattle.pfs_check_tickets.specs.RisingPuts.{HasRelease}
use Rattle.pfs_check_tickets.proofs.RisingFacts.{first_change, release_tells}
use Rattle.pfs_check_tickets.proofs.rising.has_release.Goals as goal

pub returns : goal.returns
returns c =
    subst (Tells (HasRelease c.args.releases.now c.args.row c.args.low c.args.high))
    (first_change _ c.range-between.result _ c.next.result c.next.ensures.steps ∙ sym c.is_some.ensures)
    (release_tells c.args.releases.now c.args.row c.args.low c.args.high c.range-between.result (c.range-between.ensures.in_range tt))
