use Rattle.std.proofs.Common.{sym, ◌∙◌, ap, Some, [], ◌∷◌}
use Rattle.pfs_model.specs.EntryAsks.{cell_row}
use Rattle.pfs_model.specs.Puts.{Adds, in_slot}
use Rattle.pfs_model.specs.Shapes.{counted_slot}
use Rattle.pfs_check_brought.proofs.DueFacts.{end_dues, history_at_end, long_at_end}
use Rattle.pfs_check_brought.proofs.ends.dues_at_end.Goals as goal

pub returns : goal.returns
returns g c = λ flags earlier place gives known told session.
    let event = c.in-Some.event in
    let slot = c.slot-slot.ensures place.context told in
    end_dues flags earlier place event c.args.consumers c.args.thread
    (record {
      cell = Some c.cell_row.result;
      digest = c.digest_due.result;
      current = c.innermost_due.result;
      history = c.history_due.result;
      long = c.long_due.result;
    })
    (sym (c.in-Some.ensures place.context told)) (sym c.is_let_through.ensures ∙ c.if-not-is_let_through.false)
    (record {
      cell =
          ap (λ z. Adds z ∷ [])
          (c.cell_row.ensures ∙ ap (λ z. cell_row z event.subject.cell) (c.counted_slot-counted.ensures ∙ ap (λ z. counted_slot z event.verdict) slot));
      digest = c.digest_due.ensures flags place.context.slot gives;
      current = c.innermost_due.ensures flags place.context gives told;
      history =
          c.history_due.ensures flags earlier gives known
          ∙ ap (λ z. in_slot z (history_at_end flags earlier c.args.session z event c.args.consumers c.args.thread)) slot
          ∙ ap (λ z. in_slot place.context.slot (history_at_end flags earlier z place.context.slot event c.args.consumers c.args.thread)) (sym session);
      long =
          c.long_due.ensures flags gives ∙ ap (λ z. in_slot z (long_at_end flags z event c.args.consumers c.args.thread)) slot;
    })
