use Rattle.std.proofs.Common.{◌≡◌, ◌∙◌, [], ◌∷◌, get_or, sym, refl, ap, subst, arith}
use Rattle.pfs_switches.specs.declared.view.View.{View}
use Rattle.pfs_switches.specs.Knowledge.{joined, merged}
use Rattle.pfs_switches.specs.SeatViews.{Known, Place, IsReady, first_view}
use Rattle.pfs_switches.proofs.ReadySeats.{view_of_seat, ready_view, ready_joined}
use Rattle.pfs_switches.proofs.Seats.{joins}
use Rattle.pfs_switches.proofs.ViewFacts.{merged_left, merged_right}
use Rattle.pfs_switches.proofs.switches.Switches.join.Goals as goal

pub join_seat-requires : goal.join_seat-requires
join_seat-requires c = let s = c.into_seat-sitting.ensures in let o = c.into_seat.ensures in let b = c.replace-badge.ensures.value in let sized = c.self.invariant in let words = sized.words in let some_word = sized.some_word in
    let rv = ready_view c.seat.inside.badge.table_id c.seat.inside.badge.views c.replace-badge.result.views c.into_seat-sitting.result.me.0 s.2 (λ i. (b i).views) c.seat.invariant in
    let rw_ = ready_view c.other.inside.badge.table_id c.other.inside.badge.views c.other.inside.badge.views c.into_seat.result.me.0 o.2 refl c.other.invariant in
    let v_is = view_of_seat c.seat.inside.badge.table_id c.seat.inside.badge.views c.replace-badge.result.views c.into_seat-sitting.result.me.0 c.args.seat.now s.2 (λ i. (b i).views) c.seat.view_is in
    let home : c.args.self.now.id ≡ c.self.inside.table.shared.table_id = ap (λ (p : Place). p.id) (sym c.self.view_is) in (
      s.0 ∙ ((λ i. (b i).table_id) ∙ (ap (λ (k : Known). k.switches) c.seat.view_is ∙ (c.requires.switches.0 ∙ home))),
      o.0 ∙ (ap (λ (k : Known). k.switches) c.other.view_is ∙ (c.requires.switches.1 ∙ home)),
      o.3,
      omega arith,
      joins _ c.self.inside.table.shared.key.items c.into_seat-sitting.result.id c.into_seat-sitting.result.me.0 c.into_seat.result.id c.into_seat.result.me.0 rv.live rv.reads rv.sits (ap (λ (v : View). v.number) v_is ∙ c.requires.root) rw_.live rw_.reads rw_.sits,
    )

pub invariant_of-seat : goal.invariant_of-seat
invariant_of-seat c = let s = c.into_seat-sitting.ensures in let b = c.replace-badge.ensures.value in let j = c.join_seat.ensures in let e = c.into_badge.ensures in
    let rv = ready_view c.seat.inside.badge.table_id c.seat.inside.badge.views c.replace-badge.result.views c.into_seat-sitting.result.me.0 s.2 (λ i. (b i).views) c.seat.invariant in
    let table : c.into_badge.result.table_id ≡ c.seat.inside.badge.table_id = e.0 ∙ (j.0 ∙ (s.0 ∙ (λ i. (b i).table_id))) in
    let views : c.into_badge.result.views ≡ joined c.into_seat-sitting.result.me.0 c.into_seat.result.me.0 ∷ [] = e.2 ∙ (λ i. (j.2 i).0 ∷ []) in
    subst (λ z. IsReady z c.into_badge.result.views) (sym table) (subst (IsReady c.seat.inside.badge.table_id) (sym views) (ready_joined c.seat.inside.badge.table_id c.into_seat-sitting.result.me.0 c.into_seat.result.me.0 rv))

pub returns-clause-seen : goal.returns-clause-seen
returns-clause-seen c = let s = c.into_seat-sitting.ensures in let o = c.into_seat.ensures in let b = c.replace-badge.ensures.value in let j = c.join_seat.ensures in let e = c.into_badge.ensures in
    let rv = ready_view c.seat.inside.badge.table_id c.seat.inside.badge.views c.replace-badge.result.views c.into_seat-sitting.result.me.0 s.2 (λ i. (b i).views) c.seat.invariant in
    let rw_ = ready_view c.other.inside.badge.table_id c.other.inside.badge.views c.other.inside.badge.views c.into_seat.result.me.0 o.2 refl c.other.invariant in
    let v_is = view_of_seat c.seat.inside.badge.table_id c.seat.inside.badge.views c.replace-badge.result.views c.into_seat-sitting.result.me.0 c.args.seat.now s.2 (λ i. (b i).views) c.seat.view_is in
    let w_is = view_of_seat c.other.inside.badge.table_id c.other.inside.badge.views c.other.inside.badge.views c.into_seat.result.me.0 c.args.other o.2 refl c.other.view_is in
    let here = ap (λ (k : Known). k.switches) c.seat.view_is ∙ c.requires.switches.0 in let there = ap (λ (k : Known). k.switches) c.other.view_is ∙ c.requires.switches.1 in
    let same = ap (λ (z : _). z.words) (there ∙ sym here) in let a = rv.wide in let d = rw_.wide in
    let now : (first_view c.into_badge.result.views).seen ≡ merged c.into_seat-sitting.result.me.0.seen c.into_seat.result.me.0.seen = ap (λ vs. (first_view vs).seen) e.2 ∙ (λ i. (j.2 i).0.seen) in
    λ r _. let left = merged_left c.into_seat-sitting.result.me.0.seen c.into_seat.result.me.0.seen r in let right = merged_right c.into_seat-sitting.result.me.0.seen c.into_seat.result.me.0.seen r (omega arith) in
    let x = ap (λ (v : View). get_or v.seen r 0) v_is in let y = ap (λ (v : View). get_or v.seen r 0) w_is in let z = ap (λ l. get_or l r 0) now in (omega arith, omega arith)
