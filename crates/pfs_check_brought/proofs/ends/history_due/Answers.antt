use Rattle.std.proofs.Common.{sym, ◌∙◌, ap, [], ◌∷◌}
use Rattle.pfs_model.specs.Puts.{Puts, history_place}
use Rattle.pfs_model.specs.Rings.{history_row, ring_number}
use Rattle.pfs_model.specs.SetupFlags.{history_consumer, is_offered_at_end}
use Rattle.pfs_check_brought.specs.HistoryCounts.{history_at}
use Rattle.pfs_check_brought.proofs.DueFacts.{history_at_end, in_own, where_asked, where_not}
use Rattle.pfs_check_brought.proofs.ends.history_due.Goals as goal

pub returns-then-is_offered_at_end : goal.returns-then-is_offered_at_end
returns-then-is_offered_at_end c = λ flags earlier gives known.
    let ended = c.args.ended.now in
    let own = c.in_ok-slot.slot in
    in_own ended.slot own (history_at_end flags earlier c.args.session ended.slot ended.event ended.consumers ended.thread)
    (Puts c.history_row.result ∷ []) c.in_ok-slot.was
    (where_asked Puts (is_offered_at_end history_consumer flags ended.slot ended.event ended.consumers ended.thread) c.history_row.result
    (history_place earlier c.args.session own (ring_number ended.event.subject.kind))
    (sym (c.is_offered_at_end.ensures flags history_consumer gives c.history_consumer-consumer.ensures) ∙ c.if-is_offered_at_end.true)
    (c.history_row.ensures
    ∙ ap (history_row own c.ring_number-kind.result) (c.of-put.ensures ∙ known (history_at c.args.session own c.ring_number-kind.result))
    ∙ ap (λ z. history_place earlier c.args.session own z) c.ring_number-kind.ensures))

pub returns : goal.returns
returns c = λ flags earlier gives known.
    let ended = c.args.ended.now in
    let own = c.in_ok-slot.slot in
    in_own ended.slot own (history_at_end flags earlier c.args.session ended.slot ended.event ended.consumers ended.thread) [] c.in_ok-slot.was
    (where_not (Puts (history_place earlier c.args.session own (ring_number ended.event.subject.kind)))
    (is_offered_at_end history_consumer flags ended.slot ended.event ended.consumers ended.thread)
    (sym (c.is_offered_at_end.ensures flags history_consumer gives c.history_consumer-consumer.ensures) ∙ c.if-is_offered_at_end.false))
