use Rattle.std.proofs.Common.{subst, arith, All}
use Rattle.std.proofs.lemmas.List.{take_all}
use Rattle.pfs_board_run.specs.JobLists.{IsPaused}
use Rattle.pfs_board_run.proofs.board.all_paused.Goals as goal

pub returns : goal.returns
returns g c = λ yes. subst (λ z. All IsPaused z) (take_all c.loop-job.job-index c.args.jobs.now (omega arith)) c.loop-job.invariant
