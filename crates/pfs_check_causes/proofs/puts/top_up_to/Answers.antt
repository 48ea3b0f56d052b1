use Rattle.std.proofs.Common.{◌-◌, sym, subst, arith, None}
use Rattle.pfs_check_causes.specs.TicketPuts.{Parts}
use Rattle.pfs_check_causes.proofs.PutFacts.{pick_none, picked_at}
use Rattle.pfs_check_causes.proofs.puts.top_up_to.Goals as goal

pub returns-then-place-eq0 : goal.returns-then-place-eq0
returns-then-place-eq0 c = λ order.
    sym (pick_none None c.args.phase c.args.tops.now
    (subst (λ z. Parts c.args.tops.now c.args.phase z z) c.if-place-eq0.true (c.behind-place.ensures.parts order)))

pub returns : goal.returns
returns c = λ order.
    sym (picked_at None c.args.phase c.behind-place.result c.args.tops.now _ (omega (arith, c.if-place-eq0.false))
    c.behind-place.ensures.within (c.behind-place.ensures.parts order))
