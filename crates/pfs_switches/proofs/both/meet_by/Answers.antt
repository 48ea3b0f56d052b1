use Rattle.std.proofs.Common.{◌≡◌, ◌∙◌, [], ◌∷◌, ap, subst}
use Rattle.pfs_switches.specs.declared.view.View.{View}
use Rattle.pfs_switches.specs.SharedKnowledge.{IsTold}
use Rattle.pfs_switches.specs.Knowledge.{reader, writer, gathered}
use Rattle.pfs_switches.specs.SeatViews.{first_view}
use Rattle.pfs_switches.proofs.ReadySeats.{ready_view, writing_view, reader_met, writer_met}
use Rattle.pfs_switches.proofs.RuleSteps.{tell_keeps}
use Rattle.pfs_switches.proofs.MeetKnowledge.{told_met}
use Rattle.pfs_switches.proofs.both.meet_by.Goals as goal

pub load-requires : goal.load-requires
load-requires c = let g = c.gather-both.ensures in let live = (λ i. (g.both i).0.live) ∙ c.requires.seat.live in (
  g.table,
  c.requires.tables.2,
  tell_keeps _ c.args.top.now.key.items _ _ c.gather-both.result.me 0 live (λ i. (g.both i).0.writes),
)

pub returns-clause-seat : goal.returns-clause-seat
returns-clause-seat c = let g = c.gather-both.ensures in let t = c.load.ensures.2 in let p = c.part.ensures in
    let v : View = first_view c.args.badge.views in let w : View = first_view c.args.pen.views in
    let is : c.load.new.seat.me.0 ≡ gathered v w = (λ i. (t.0 i).0) ∙ (λ i. (g.both i).0) in
    p.seat ∙ ap (λ x. x ∷ []) (ap reader is ∙ reader_met _ v w (ready_view c.args.badge.table_id c.args.badge.views c.args.badge.views v c.requires.seat.one (λ i. c.args.badge.views) c.requires.seat))

pub returns-clause-told : goal.returns-clause-told
returns-clause-told c = let g = c.gather-both.ensures in let t = c.load.ensures.2 in
    let v : View = first_view c.args.badge.views in let w : View = first_view c.args.pen.views in
    told_met v.start v w (subst (λ (x : View). IsTold x.start x x) (λ i. (g.both i).0) t.1)

pub returns-clause-writer : goal.returns-clause-writer
returns-clause-writer c = let g = c.gather-both.ensures in let t = c.load.ensures.2 in let p = c.part.ensures in
    let v : View = first_view c.args.badge.views in let w : View = first_view c.args.pen.views in
    let is : c.load.new.seat.me.0 ≡ gathered v w = (λ i. (t.0 i).0) ∙ (λ i. (g.both i).0) in
    let u = subst (λ (x : View). IsTold x.start x x) (λ i. (g.both i).0) t.1 in
    p.writer ∙ ap (λ x. x ∷ []) (ap writer is ∙ writer_met _ v w (writing_view c.args.pen.table_id c.args.pen.views c.args.pen.views w c.requires.writer.one (λ i. c.args.pen.views) c.requires.writer) u.meets.0.start_is)
