use Rattle.std.proofs.Common.{◌≡◌, sym, ◌∙◌, ap, subst, Some, None}
use Rattle.std.specs.BTreeMap.{get}
use Rattle.pfs_check_tickets.specs.PutCounts.{AreKindCounts, HasPuts, kind_at, puts_in}
use Rattle.pfs_check_tickets.proofs.AskFacts.{no_room}
use Rattle.pfs_check_tickets.proofs.asking.is_counted.Goals as goal

pub returns-in-Some : goal.returns-in-Some
returns-in-Some c = λ all earlier place phase session counted known.
    c.is_ticketed.ensures all earlier place phase session
    (subst (λ z. HasPuts all (kind_at c.args.spot.phase z) c.in-Some.counts) c.kind_of.ensures
    (subst (AreKindCounts all (kind_at c.args.spot.phase c.kind_of.result)) (sym c.in-Some.ensures)
    (counted.phases (kind_at c.args.spot.phase c.kind_of.result))))
    known

pub returns-in-None : goal.returns-in-None
returns-in-None c = λ all earlier place phase session counted known.
    no_room all earlier place c.args.put c.args.spot.phase phase
    (subst (λ z. puts_in (kind_at c.args.spot.phase z) all ≡ 0) c.kind_of.ensures
    (subst (AreKindCounts all (kind_at c.args.spot.phase c.kind_of.result)) (sym c.in-None.ensures)
    (counted.phases (kind_at c.args.spot.phase c.kind_of.result))))
