use Rattle.std.proofs.Common.{sym, subst}
use Rattle.pfs_check_walk.specs.NumberTests.{Tells}
use Rattle.pfs_check_tickets.specs.RisingPuts.{RisesAfter}
use Rattle.pfs_check_tickets.proofs.RisingFacts.{above_none, above_some}
use Rattle.pfs_check_tickets.proofs.rising.LongTickets.is_above_last.Goals as goal

pub has_release-freed-requires : goal.has_release-freed-requires
has_release-freed-requires c = c.in-Some.ensures.below.lower

pub returns-in-Some : goal.returns-in-Some
returns-in-Some c =
    subst (Tells (RisesAfter c.args.self.now c.args.put)) (sym c.either.ensures)
    (above_some c.args.self.now c.args.put c.in-Some.last c.has_release-freed.result c.in-Some.ensures c.has_release-freed.ensures)

pub returns-in-None : goal.returns-in-None
returns-in-None c = above_none c.args.self.now c.args.put c.in-None.ensures
