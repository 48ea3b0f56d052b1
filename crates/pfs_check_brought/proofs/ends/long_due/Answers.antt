use Rattle.std.proofs.Common.{sym, ◌∙◌, [], ◌∷◌}
use Rattle.pfs_model.specs.Puts.{PutsLong}
use Rattle.pfs_model.specs.Rings.{ring_number}
use Rattle.pfs_model.specs.SetupFlags.{is_offered_at_end, long_consumer}
use Rattle.pfs_check_brought.proofs.DueFacts.{in_own, long_at_end, where_asked, where_not}
use Rattle.pfs_check_brought.proofs.ends.long_due.Goals as goal

pub returns-then-is_offered_at_end : goal.returns-then-is_offered_at_end
returns-then-is_offered_at_end c = λ flags gives.
    let ended = c.args.ended.now in
    in_own ended.slot c.in_ok-_slot._slot (long_at_end flags ended.slot ended.event ended.consumers ended.thread)
    (PutsLong c.ring_number.result ∷ []) c.in_ok-_slot.was
    (where_asked PutsLong (is_offered_at_end long_consumer flags ended.slot ended.event ended.consumers ended.thread) c.ring_number.result
    (ring_number ended.event.subject.kind)
    (sym (c.is_offered_at_end.ensures flags long_consumer gives c.long_consumer-consumer.ensures) ∙ c.if-is_offered_at_end.true)
    c.ring_number.ensures)

pub returns : goal.returns
returns c = λ flags gives.
    let ended = c.args.ended.now in
    in_own ended.slot c.in_ok-_slot._slot (long_at_end flags ended.slot ended.event ended.consumers ended.thread) [] c.in_ok-_slot.was
    (where_not (PutsLong (ring_number ended.event.subject.kind))
    (is_offered_at_end long_consumer flags ended.slot ended.event ended.consumers ended.thread)
    (sym (c.is_offered_at_end.ensures flags long_consumer gives c.long_consumer-consumer.ensures) ∙ c.if-is_offered_at_end.false))
