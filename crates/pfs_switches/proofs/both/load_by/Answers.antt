use Rattle.std.proofs.Common.{◌≡◌, ◌∙◌, ◌/◌, ◌%◌, ℕ, [], ◌∷◌, ap, subst, arith}
use Rattle.pfs_switches.specs.declared.view.View.{View}
use Rattle.pfs_switches.specs.SharedKnowledge.{IsTold}
use Rattle.pfs_switches.specs.Knowledge.{reader, writer, gathered, loaded}
use Rattle.pfs_switches.specs.SeatViews.{first_view}
use Rattle.pfs_switches.proofs.ReadySeats.{ready_view, writing_view, reader_loaded, writer_loaded}
use Rattle.pfs_switches.proofs.RuleSteps.{check_keeps}
use Rattle.pfs_switches.proofs.MeetKnowledge.{told_checked}
use Rattle.pfs_switches.proofs.both.load_by.Goals as goal

pub load-found-requires : goal.load-found-requires
load-found-requires c = let g = c.gather-both.ensures in let live = (λ i. (g.both i).0.live) ∙ c.requires.seat.live in let low = c.requires.word.0 in let wide = c.requires.word.1 in (
  g.table,
  c.requires.word.0,
  check_keeps _ c.args.top.now.key.items _ _ c.gather-both.result.me c.args.word (omega arith) live (λ i. (g.both i).0.writes),
)

pub returns-clause-found : goal.returns-clause-found
returns-clause-found c = let g = c.gather-both.ensures in let t = c.load-found.ensures.2 in let n : ℕ = c.load-found.result in
    subst (λ (x : View). (n / 65536 ≡ Rattle.std.specs.Prelude.slice_index x.seen c.args.word) × (n % 65536 ≡ Rattle.pfs_switches.specs.History.flags_at x.start x.sets c.args.word (n / 65536))) (λ i. (g.both i).0) (t.1, t.2)

pub returns-clause-seat : goal.returns-clause-seat
returns-clause-seat c = let g = c.gather-both.ensures in let t = c.load-found.ensures.2 in let p = c.part-sitting.ensures in
    let v : View = first_view c.args.badge.views in let w : View = first_view c.args.pen.views in let k : ℕ = c.load-found.result / 65536 in let f : ℕ = c.load-found.result % 65536 in
    let is : c.load-found.new.seat.me.0 ≡ loaded (gathered v w) c.args.word k f = (λ i. (t.0 i).0) ∙ ap (λ (x : View). loaded x c.args.word k f) (λ i. (g.both i).0) in
    p.seat ∙ ap (λ x. x ∷ []) (ap reader is ∙ reader_loaded _ v w c.args.word k f (ready_view c.args.badge.table_id c.args.badge.views c.args.badge.views v c.requires.seat.one (λ i. c.args.badge.views) c.requires.seat))

pub returns-clause-told : goal.returns-clause-told
returns-clause-told c = let g = c.gather-both.ensures in let t = c.load-found.ensures.2 in
    let v : View = first_view c.args.badge.views in let w : View = first_view c.args.pen.views in let k : ℕ = c.load-found.result / 65536 in let f : ℕ = c.load-found.result % 65536 in
    told_checked v.start v w c.args.word k f (subst (λ (x : View). IsTold x.start (loaded x c.args.word k f) x) (λ i. (g.both i).0) t.3)

pub returns-clause-writer : goal.returns-clause-writer
returns-clause-writer c = let g = c.gather-both.ensures in let t = c.load-found.ensures.2 in let p = c.part-sitting.ensures in
    let v : View = first_view c.args.badge.views in let w : View = first_view c.args.pen.views in let k : ℕ = c.load-found.result / 65536 in let f : ℕ = c.load-found.result % 65536 in
    let is : c.load-found.new.seat.me.0 ≡ loaded (gathered v w) c.args.word k f = (λ i. (t.0 i).0) ∙ ap (λ (x : View). loaded x c.args.word k f) (λ i. (g.both i).0) in
    let u = subst (λ (x : View). IsTold x.start (loaded x c.args.word k f) x) (λ i. (g.both i).0) t.3 in
    p.writer ∙ ap (λ x. x ∷ []) (ap writer is ∙ writer_loaded _ v w c.args.word k f (writing_view c.args.pen.table_id c.args.pen.views c.args.pen.views w c.requires.writer.one (λ i. c.args.pen.views) c.requires.writer) u.meets.0.start_is (t.1 ∙ (λ i. Rattle.std.specs.Prelude.slice_index (g.both i).0.seen c.args.word)))
