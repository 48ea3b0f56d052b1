use Rattle.std.proofs.Common.{◌∙◌, ◌∷◌, ℕ, List, ap, arith}
use Rattle.std.specs.Prelude.{Option, None}
use Rattle.atomic_table.specs.Table.{rest}
use Rattle.pfs_board.proofs.ValueLoans.{hand_keeps}
use Rattle.pfs_board.proofs.SlotFacts.{in_hand}
use Rattle.pfs_board.proofs.actions.enter_by.Goals as goal

pub exchange-requires : goal.exchange-requires
exchange-requires g c = let at = c.requires.at in let t = c.take_first-labels.ensures.taken.0 in (c.take_first-labels.ensures.table ∙ (c.tell_label.ensures.table ∙ at.same), in_hand c.take_first-labels.new.seat.me.1 _ _ (λ i. (t.6 i).1))

pub load-requires : goal.load-requires
load-requires g c = let at = c.requires.at in let t = c.take_first-labels.ensures.taken.0 in let told = c.tell_label.ensures.told in let e = c.exchange.ensures in let slots = c.requires.slots in (
  e.0 ∙ (c.take_first-labels.ensures.table ∙ (c.tell_label.ensures.table ∙ at.same)),
  at.inside,
  hand_keeps g.V.Kept.stands_for c.args.top.now.key.items _ _ c.exchange.new.seat.me 0 (omega arith) ((λ i. (e.3 i).0.live) ∙ ((λ i. (t.6 i).0.live) ∙ ((λ i. (told i).0.live) ∙ at.live))) ((λ i. (e.3 i).0.lent) ∙ (λ i. (t.6 i).0.lent))
      ((λ i. (e.3 i).1) ∙ ((λ i. (0, None) ∷ rest (t.6 i).1) ∙ ((λ i. (0, None) ∷ (told i).1) ∙ ap (λ (z : List (ℕ × Option g.row.V.Denot)). (0, None) ∷ z) c.requires.calm.0))),
)
