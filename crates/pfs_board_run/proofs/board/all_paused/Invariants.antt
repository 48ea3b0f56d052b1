use Rattle.std.proofs.Common.{All, take}
use Rattle.pfs_board_run.specs.JobLists.{IsPaused}
use Rattle.pfs_board_run.proofs.board.all_paused.Given as goal

abbrev pub invariant-loop-job : goal.invariant-loop-job
invariant-loop-job g l = All IsPaused (take l.job-index l.jobs)
