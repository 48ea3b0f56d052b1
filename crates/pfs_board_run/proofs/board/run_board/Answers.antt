use Rattle.std.proofs.Common.{All, arith, subst}
use Rattle.pfs_admin.specs.OpeningState.{opening_flags}
use Rattle.pfs_board_root.specs.Roots.{opening_at}
use Rattle.pfs_matching.specs.ObjectRules.{opening_objects}
use Rattle.pfs_board_run.specs.BoardRuns.{share_of_each}
use Rattle.pfs_board_run.specs.JobLists.{IsPaused}
use Rattle.pfs_board_run.proofs.Jobs.{all_waiting, as_many_run, calls_out, phase_run}
use Rattle.pfs_board_run.proofs.board.run_board.Goals as goal

pub play_at_once-requires-clause-waiting : goal.play_at_once-requires-clause-waiting
play_at_once-requires-clause-waiting g c κs within = all_waiting g.N.Named.setting g.N.Named.change _ (opening_at (opening_flags g.N.Named.setting opening_objects) c.args.root.now share_of_each share_of_each) 1 c.args.blocks.now c.args.sessions.items c.in_ok-jobs.jobs.items c.requires.may c.in_ok-jobs.ensures.jobs

pub take_results-requires-clause-room : goal.take_results-requires-clause-room
take_results-requires-clause-room g c κs within = (c.in_ok-rans.ensures.items, omega (arith, as_many_run c.args.setting.now g.N.Named.setting g.N.Named.change _ c.args.blocks.now c.in_ok-jobs.jobs.items c.play_at_once.new.jobs.items c.play_at_once.ensures.ran, c.in_ok-rans.ensures.capacity))

pub take_results-requires-clause-known : goal.take_results-requires-clause-known
take_results-requires-clause-known g c κs within =
    let paused = subst (λ z. All IsPaused z) c.as_slice.ensures.value (c.all_paused.ensures c.if-not-all_paused.false) in
    let calls = calls_out c.args.setting.now g.N.Named.setting g.N.Named.change _ (opening_flags g.N.Named.setting opening_objects) c.args.blocks.now c.args.sessions.items c.in_ok-jobs.jobs.items c.play_at_once.new.jobs.items c.args.root.now c.hand_out.new.root c.in_ok-jobs.ensures.root c.in_ok-jobs.ensures.jobs c.play_at_once.ensures.ran paused in
    (calls.ws, calls.known)

pub returns : goal.returns
returns g c =
    let paused = subst (λ z. All IsPaused z) c.as_slice.ensures.value (c.all_paused.ensures c.if-not-all_paused.false) in
    let calls = calls_out c.args.setting.now g.N.Named.setting g.N.Named.change _ (opening_flags g.N.Named.setting opening_objects) c.args.blocks.now c.args.sessions.items c.in_ok-jobs.jobs.items c.play_at_once.new.jobs.items c.args.root.now c.hand_out.new.root c.in_ok-jobs.ensures.root c.in_ok-jobs.ensures.jobs c.play_at_once.ensures.ran paused in
    let took = c.take_results.ensures in
    record {
      ran = phase_run c.args.setting.now g.N.Named.setting g.N.Named.change _ c.args.blocks.now c.args.sessions.items c.play_at_once.new.jobs.items c.take_results.result.items c.args.root.now c.hand_out.new.root c.take_results.new.root c.in_ok-jobs.ensures.root calls took.results took.taken took.back took.draws;
    }
