use Rattle.std.proofs.Common.{◌≡◌, ◌∙◌, ◌+◌, ◌*◌, ◌/◌, length, get_or, sym, ap, arith}
use Rattle.pfs_switches.specs.declared.view.View.{View}
use Rattle.pfs_switches.specs.SeatViews.{Known, Place}
use Rattle.pfs_switches.proofs.ReadySeats.{writing_view}
use Rattle.pfs_switches.proofs.RuleSteps.{weigh_keeps, set_keeps}
use Rattle.pfs_switches.proofs.switches.Switches.set.Goals as goal

pub load-found-requires : goal.load-found-requires
load-found-requires c = let s = c.into_seat-sitting.ensures in let b = c.replace-badge.ensures.value in let sized = c.self.invariant in let words = sized.words in
    let rv = writing_view c.writer.inside.badge.table_id c.writer.inside.badge.views c.replace-badge.result.views c.into_seat-sitting.result.me.0 s.2 (λ i. (b i).views) c.writer.invariant in
    let home : c.args.self.now.id ≡ c.self.inside.table.shared.table_id = ap (λ (p : Place). p.id) (sym c.self.view_is) in
    let start_is = ap (λ (p : Place). length p.start) c.self.view_is in let low = c.requires.word in (
      s.0 ∙ ((λ i. (b i).table_id) ∙ (ap (λ (k : Known). k.switches) c.writer.view_is ∙ (c.requires.switches ∙ home))),
      omega arith,
      weigh_keeps _ c.self.inside.table.shared.key.items _ _ c.into_seat-sitting.result.me c.args.word (omega arith) rv.live rv.writes,
    )

pub store-requires : goal.store-requires
store-requires c = let s = c.into_seat-sitting.ensures in let b = c.replace-badge.ensures.value in let sized = c.self.invariant in let words = sized.words in let l = c.load-found.ensures in let t = l.2 in
    let rv = writing_view c.writer.inside.badge.table_id c.writer.inside.badge.views c.replace-badge.result.views c.into_seat-sitting.result.me.0 s.2 (λ i. (b i).views) c.writer.invariant in
    let home : c.args.self.now.id ≡ c.self.inside.table.shared.table_id = ap (λ (p : Place). p.id) (sym c.self.view_is) in
    let start_is = ap (λ (p : Place). length p.start) c.self.view_is in let low = c.requires.word in
    let me_is : c.load-found.new.seat.me.0 ≡ c.into_seat-sitting.result.me.0 = λ i. (t.0 i).0 in
    let seen_is : get_or c.load-found.new.seat.me.0.seen c.args.word 0 ≡ get_or c.into_seat-sitting.result.me.0.seen c.args.word 0 = ap (λ (v : View). get_or v.seen c.args.word 0) me_is in
    let known = t.1 in let room = t.2 in let flags_are = c.from.ensures in let small = c.ranges.flags.fits in
    let not_last : ¬ (c.load-found.result / 65536 ≡ 281474976710655) = c.if-version-eq-LAST_VERSION.false in (
      l.0 ∙ (s.0 ∙ ((λ i. (b i).table_id) ∙ (ap (λ (k : Known). k.switches) c.writer.view_is ∙ (c.requires.switches ∙ home)))),
      omega arith,
      set_keeps _ c.self.inside.table.shared.key.items _ _ c.load-found.new.seat.me c.args.word ((c.load-found.result / 65536 + 1) * 65536 + c.from.result) (omega arith) (ap (λ (v : View). v.live) me_is ∙ rv.live) (ap (λ (v : View). v.writes) me_is ∙ rv.writes)
          (omega arith) (omega arith),
    )
