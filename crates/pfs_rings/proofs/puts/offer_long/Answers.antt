use Rattle.std.proofs.Common.{ℕ, List, ◌≤◌, ◌+◌, refl, subst, arith, slice_index}
use Rattle.pfs_rings.proofs.Offers.{long}
use Rattle.pfs_rings.proofs.puts.offer_long.Goals as goal

-- src/puts.rt:131:1
pub returns-in-Done-clause-offered : goal.returns-in-Done-clause-offered
returns-in-Done-clause-offered g c =
    long _ c.ring_number-number.result _ c.ticket-ticket.result c.args.event.now _ c.ring_try.result _ _ _ _ _
    c.ring_number-number.ensures.number refl c.in-Done.is c.words_with-content.ensures refl
    c.ticket-ticket.ensures.call c.ring_try.ensures.call

-- src/puts.rt:131:1
pub returns-in-Busy-clause-offered : goal.returns-in-Busy-clause-offered
returns-in-Busy-clause-offered g c =
    long _ c.ring_number-number.result _ c.ticket-ticket.result c.args.event.now _ c.ring_try.result _ _ _ _ _
    c.ring_number-number.ensures.number refl c.in-Busy.is c.words_with-content.ensures refl
    c.ticket-ticket.ensures.call c.ring_try.ensures.call

-- src/puts.rt:131:1
pub returns-in-Late-clause-offered : goal.returns-in-Late-clause-offered
returns-in-Late-clause-offered g c =
    let own : c.ticket-ticket.result + 1 ≤ c.in-Late.greater =
    subst (λ (z : List ℕ). slice_index z 15 ≤ c.in-Late.greater) c.words_with-content.ensures c.in-Late.ensures.late.1 in
    long _ c.ring_number-number.result _ c.ticket-ticket.result c.args.event.now _ c.ring_try.result _ _ _ _ _
    c.ring_number-number.ensures.number refl c.in-Late.is c.words_with-content.ensures (refl, omega (arith, own))
    c.ticket-ticket.ensures.call c.ring_try.ensures.call
