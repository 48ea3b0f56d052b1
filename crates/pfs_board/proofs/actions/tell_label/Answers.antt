use Rattle.std.proofs.Common.{◌∙◌}
use Rattle.pfs_board.proofs.Looks.{tell_keeps}
use Rattle.pfs_board.proofs.actions.tell_label.Goals as goal

pub compare_exchange-requires : goal.compare_exchange-requires
compare_exchange-requires g c = let at = c.requires.at in (at.same, at.inside, tell_keeps g.V.Kept.stands_for c.args.top.now.key.items _ _ c.args.seat.now.me c.args.label.line at.live)

pub compare_exchange-requires-2 : goal.compare_exchange-requires-2
compare_exchange-requires-2 g c = let at = c.requires.at in let x = c.compare_exchange.ensures in
    (x.0 ∙ at.same, at.inside, tell_keeps g.V.Kept.stands_for c.args.top.now.key.items _ _ c.compare_exchange.new.seat.me c.args.label.session ((λ i. (x.2 i).0.live) ∙ at.live))
