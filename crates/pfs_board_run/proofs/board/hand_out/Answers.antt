use Rattle.std.proofs.Common.{◌+◌, ◌∷◌, ◌∙◌, ap, sym, arith, length, drop}
use Rattle.std.proofs.lemmas.List.{drop_all, drop_more}
use Rattle.std.specs.Vec.Iter.{into_iter_items}
use Rattle.pfs_admin.specs.OpeningState.{opening_flags}
use Rattle.pfs_board_root.specs.Roots.{opening_at}
use Rattle.pfs_board_session.specs.contracts.seated.SeatedReadable.TheImpl.{ghosts}
use Rattle.pfs_matching.specs.ObjectRules.{opening_objects}
use Rattle.pfs_board_run.specs.BoardRuns.{share_of_each}
use Rattle.pfs_board_run.proofs.JobLoops.{all_handed_out, all_to_hand_out, one_handed_out}
use Rattle.pfs_board_run.proofs.board.hand_out.Goals as goal

pub loop-block-init : goal.loop-block-init
loop-block-init g c = (
  all_to_hand_out g.N.Named.setting g.N.Named.change ((ghosts g.row.R g.row.G g.row.N g.R.Wait g.R.Wait-dict g.G.Gate g.G.Gate-dict g.N.Shared g.N.Shared-dict g.N.Named g.N.Named-dict).seen) (opening_at (opening_flags g.N.Named.setting opening_objects) c.args.root.now share_of_each share_of_each) c.args.blocks.now c.args.sessions.items (into_iter_items c.into_iter-sessions.result) c.in_ok-jobs.jobs.items c.args.root.now c.into_iter-sessions.ensures.rest c.in_ok-jobs.ensures.items c.requires.may,
  omega (arith, c.into_iter-sessions.ensures.len, ap (λ z. length z) c.into_iter-sessions.ensures.rest),
  omega (arith, c.in_ok-jobs.ensures.capacity),
)

pub loop-block-preserved : goal.loop-block-preserved
loop-block-preserved g c =
    let at = c.loop-block in
    let i = at.invariant in
    let is = drop_more c.args.blocks.now at.block-index c.block-item.result c.loop-block-test.true ∙ ap (λ z. z ∷ drop (at.block-index + 1) c.args.blocks.now) (sym c.block-item.is) in (
      one_handed_out g.N.Named.setting g.N.Named.change ((ghosts g.row.R g.row.G g.row.N g.R.Wait g.R.Wait-dict g.G.Gate g.G.Gate-dict g.N.Shared g.N.Shared-dict g.N.Named g.N.Named-dict).seen) (opening_flags g.N.Named.setting opening_objects) c.args.blocks.now (drop at.block-index c.args.blocks.now) c.args.sessions.items (into_iter_items at.sessions) at.jobs.items c.args.root.now at.root c.hand_one.new.root c.block-item.result (drop (at.block-index + 1) c.args.blocks.now) c.in-Some.session
          (into_iter_items c.next.new.self) c.in_ok-job-in-Some.job c.push_reserved.new.self.items is c.in-Some.ensures.items c.push_reserved.ensures.items c.in_ok-job-in-Some.ensures.root c.in_ok-job-in-Some.ensures.job i.0,
      omega (arith, i.1, c.in-Some.ensures.len, ap (λ z. length z) c.in-Some.ensures.items),
      omega (arith, i.2, c.push_reserved.ensures.capacity),
    )

pub returns : goal.returns
returns g c =
    let at = c.loop-block in
    let all = all_handed_out g.N.Named.setting g.N.Named.change ((ghosts g.row.R g.row.G g.row.N g.R.Wait g.R.Wait-dict g.G.Gate g.G.Gate-dict g.N.Shared g.N.Shared-dict g.N.Named g.N.Named-dict).seen) (opening_at (opening_flags g.N.Named.setting opening_objects) c.args.root.now share_of_each share_of_each) c.args.blocks.now (drop at.block-index c.args.blocks.now) c.args.sessions.items (into_iter_items at.sessions) at.jobs.items c.args.root.now at.root (drop_all at.block-index c.args.blocks.now (omega arith)) at.invariant.0 in
    record { jobs = all.0; root = all.1 }
