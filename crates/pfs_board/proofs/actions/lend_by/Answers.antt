use Rattle.std.proofs.Common.{◌∙◌, ◌∷◌, ℕ, List, ap, arith}
use Rattle.atomic_table.specs.Table.{rest}
use Rattle.std.specs.Prelude.{Option, None}
use Rattle.pfs_board.proofs.CallSteps.{row_in}
use Rattle.pfs_board.proofs.ValueLoans.{lend_keeps, hand_keeps}
use Rattle.pfs_board.proofs.SlotFacts.{in_hand}
use Rattle.pfs_board.proofs.actions.lend_by.Goals as goal

pub load-requires : goal.load-requires
load-requires g c = let at = c.requires.at in let outside = c.requires.outside in (at.same, at.inside, lend_keeps g.V.Kept.stands_for c.args.top.now.key.items _ _ c.args.seat.now.me (row_in _ _ _ _ 0 at) at.live c.requires.whole outside.0 outside.1)

pub exchange-requires : goal.exchange-requires
exchange-requires g c = let at = c.requires.at in let x = c.load.ensures in let l = x.2 in (x.0 ∙ at.same, in_hand c.load.new.seat.me.1 _ _ (λ i. (l.4 i).1))

pub load-requires-2 : goal.load-requires-2
load-requires-2 g c = let at = c.requires.at in let x = c.load.ensures in let l = x.2 in let e = c.exchange.ensures in let slots = c.requires.slots in (
  e.0 ∙ (x.0 ∙ at.same),
  at.inside,
  hand_keeps g.V.Kept.stands_for c.args.top.now.key.items _ _ c.exchange.new.seat.me 0 (omega arith) ((λ i. (e.3 i).0.live) ∙ ((λ i. (l.4 i).0.live) ∙ at.live)) ((λ i. (e.3 i).0.lent) ∙ (λ i. (l.4 i).0.lent))
      ((λ i. (e.3 i).1) ∙ (λ i. (0, None) ∷ rest (l.4 i).1) ∙ ap (λ (z : List (ℕ × Option g.row.V.Denot)). (0, None) ∷ z) c.requires.calm.0),
)

pub returns-clause-history : goal.returns-clause-history
returns-clause-history g c = let l = c.load.ensures.2 in let e = c.exchange.ensures in let h = c.load-2.ensures.2 in (l.0, l.1, (λ i. (h i).0.labels) ∙ ((λ i. (e.3 i).0.labels) ∙ (λ i. (l.4 i).0.labels)))
