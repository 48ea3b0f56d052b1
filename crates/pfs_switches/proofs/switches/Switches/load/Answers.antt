use Rattle.std.proofs.Common.{◌≡◌, ◌∙◌, ◌/◌, length, get_or, set, sym, ap, arith}
use Rattle.pfs_switches.specs.declared.view.View.{View}
use Rattle.pfs_switches.specs.SeatViews.{Known, Place, first_view}
use Rattle.pfs_switches.proofs.ReadySeats.{view_of_seat, ready_view}
use Rattle.pfs_switches.proofs.RuleSteps.{look_keeps}
use Rattle.pfs_switches.proofs.ViewFacts.{raised}
use Rattle.pfs_switches.proofs.switches.Switches.load.Goals as goal

pub load-found-requires : goal.load-found-requires
load-found-requires c = let s = c.into_seat-sitting.ensures in let b = c.replace-badge.ensures.value in let sized = c.self.invariant in let words = sized.words in
    let rv = ready_view c.seat.inside.badge.table_id c.seat.inside.badge.views c.replace-badge.result.views c.into_seat-sitting.result.me.0 s.2 (λ i. (b i).views) c.seat.invariant in
    let home : c.args.self.now.id ≡ c.self.inside.table.shared.table_id = ap (λ (p : Place). p.id) (sym c.self.view_is) in
    let start_is = ap (λ (p : Place). length p.start) c.self.view_is in let low = c.requires.word in (
      s.0 ∙ ((λ i. (b i).table_id) ∙ (ap (λ (k : Known). k.switches) c.seat.view_is ∙ (c.requires.switches ∙ home))),
      omega arith,
      look_keeps _ c.self.inside.table.shared.key.items _ _ c.into_seat-sitting.result.me c.args.word (omega arith) rv.live rv.reads,
    )

pub returns-clause-seen : goal.returns-clause-seen
returns-clause-seen c = let s = c.into_seat-sitting.ensures in let b = c.replace-badge.ensures.value in let l = c.load-found.ensures in let e = c.into_badge.ensures in let t = l.2 in
    let v_is = view_of_seat c.seat.inside.badge.table_id c.seat.inside.badge.views c.replace-badge.result.views c.into_seat-sitting.result.me.0 c.args.seat.now s.2 (λ i. (b i).views) c.seat.view_is in
    let now : (first_view c.into_badge.result.views).seen ≡ set c.into_seat-sitting.result.me.0.seen c.args.word (c.load-found.result / 65536) = ap (λ vs. (first_view vs).seen) e.2 ∙ (λ i. (t.0 i).0.seen) in
    λ r. let up = raised c.into_seat-sitting.result.me.0.seen c.args.word (c.load-found.result / 65536) t.1 r in let x = ap (λ (v : View). get_or v.seen r 0) v_is in let y = ap (λ z. get_or z r 0) now in omega arith
