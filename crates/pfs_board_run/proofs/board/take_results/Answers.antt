use Rattle.std.proofs.Common.{◌≡◌, [], ◌∙◌, length, ap, refl, arith}
use Rattle.std.proofs.lemmas.List.{nil_from_length}
use Rattle.std.specs.Vec.Iter.{into_iter_items}
use Rattle.pfs_board_session.specs.contracts.seated.SeatedReadable.TheImpl.{ghosts}
use Rattle.pfs_board_run.specs.JobLists.{publications_left, tickets_left}
use Rattle.pfs_board_run.proofs.JobLoops.{all_handed_back, all_left, all_taken_in, next_known, one_left, room_left}
use Rattle.pfs_board_run.proofs.board.take_results.Goals as goal

pub loop-job-init : goal.loop-job-init
loop-job-init g c =
    let e = c.into_iter-job-iterator.ensures.into_iter_gives in (
      all_left g.N.Named.setting g.N.Named.change ((ghosts g.row.R g.row.G g.row.N g.R.Wait g.R.Wait-dict g.G.Gate g.G.Gate-dict g.N.Shared g.N.Shared-dict g.N.Named g.N.Named-dict).seen) c.args.jobs.items (into_iter_items c.into_iter-job-iterator.result) c.args.rans.items c.args.root.now e.0 c.requires.room.0 c.requires.paused,
      refl,
      omega (arith, e.1, ap (λ z. length z) e.0),
    )

pub take_in-requires-clause-known : goal.take_in-requires-clause-known
take_in-requires-clause-known g c κs within =
    let at = c.loop-job in
    let some = c.requires.known in
    next_known g.N.Named.setting g.N.Named.change ((ghosts g.row.R g.row.G g.row.N g.R.Wait g.R.Wait-dict g.G.Gate g.G.Gate-dict g.N.Shared g.N.Shared-dict g.N.Named g.N.Named-dict).seen) some.0 (into_iter_items at.job-iterator) c.in-Some.job (into_iter_items c.next.new.self) c.args.root.now at.root c.in-Some.ensures.steps.0 (at.invariant.0.taken some.0 some.1)

pub push_reserved-requires : goal.push_reserved-requires
push_reserved-requires g c =
    let at = c.loop-job in
    omega (arith, room_left c.args.jobs.items (into_iter_items at.job-iterator) (into_iter_items c.next.new.self) at.rans.items c.in-Some.job c.in-Some.ensures.steps.0 at.invariant.0.back, at.invariant.1, c.requires.room.1)

pub loop-job-preserved : goal.loop-job-preserved
loop-job-preserved g c =
    let at = c.loop-job in
    let i = at.invariant in
    let is = c.in-Some.ensures.steps.0 in (
      one_left g.N.Named.setting g.N.Named.change ((ghosts g.row.R g.row.G g.row.N g.R.Wait g.R.Wait-dict g.G.Gate g.G.Gate-dict g.N.Shared g.N.Shared-dict g.N.Named g.N.Named-dict).seen) c.args.jobs.items (into_iter_items at.job-iterator) (into_iter_items c.next.new.self) at.rans.items c.push_reserved.new.self.items c.in-Some.job _ c.args.root.now at.root c.take_in.new.self is
          c.push_reserved.ensures.items c.in-Some-paused.is refl c.take_in.ensures.taken c.take_in.ensures.back c.take_in.ensures.draws_back i.0,
      c.push_reserved.ensures.capacity ∙ i.1,
      omega (arith, i.2, c.in-Some.ensures.steps.1, ap (λ z. length z) is),
    )

pub loop-job-preserved-in-Some-paused : goal.loop-job-preserved-in-Some-paused
loop-job-preserved-in-Some-paused g c =
    let at = c.loop-job in
    let i = at.invariant in
    let is = c.in-Some.ensures.steps.0 in (
      one_left g.N.Named.setting g.N.Named.change ((ghosts g.row.R g.row.G g.row.N g.R.Wait g.R.Wait-dict g.G.Gate g.G.Gate-dict g.N.Shared g.N.Shared-dict g.N.Named g.N.Named-dict).seen) c.args.jobs.items (into_iter_items at.job-iterator) (into_iter_items c.next.new.self) at.rans.items c.push_reserved.new.self.items c.in-Some.job _ c.args.root.now at.root c.take_in.new.self is
          c.push_reserved.ensures.items c.in-Some-paused.is refl c.take_in.ensures.taken c.take_in.ensures.back c.take_in.ensures.draws_back i.0,
      c.push_reserved.ensures.capacity ∙ i.1,
      omega (arith, i.2, c.in-Some.ensures.steps.1, ap (λ z. length z) is),
    )

pub returns : goal.returns
returns g c =
    let at = c.loop-job in
    let l = at.invariant.0 in
    let left = into_iter_items at.job-iterator in
    let none : left ≡ [] = nil_from_length left (omega (arith, c.in-None.ensures.steps.0, at.invariant.2)) in
    record {
      taken = λ ws k. all_taken_in g.N.Named.setting g.N.Named.change ((ghosts g.row.R g.row.G g.row.N g.R.Wait g.R.Wait-dict g.G.Gate g.G.Gate-dict g.N.Shared g.N.Shared-dict g.N.Named g.N.Named-dict).seen) ws left c.args.root.now at.root none (l.taken ws k);
      back = omega (arith, l.publications, ap (λ z. publications_left ((ghosts g.row.R g.row.G g.row.N g.R.Wait g.R.Wait-dict g.G.Gate g.G.Gate-dict g.N.Shared g.N.Shared-dict g.N.Named g.N.Named-dict).seen) z) none);
      draws = omega (arith, l.tickets, ap (λ z. tickets_left ((ghosts g.row.R g.row.G g.row.N g.R.Wait g.R.Wait-dict g.G.Gate g.G.Gate-dict g.N.Shared g.N.Shared-dict g.N.Named g.N.Named-dict).seen) z) none);
      results = all_handed_back c.args.jobs.items left at.rans.items none l.back;
    }
