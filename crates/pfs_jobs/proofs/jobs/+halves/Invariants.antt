use Rattle.std.proofs.Common.{length, ◌+◌, ◌-◌, ◌*◌}
use Rattle.pfs_jobs.proofs.jobs.+halves.Given as goal

abbrev pub decreases-play_both-join_mut+arg2 : goal.decreases-play_both-join_mut+arg2
decreases-play_both-join_mut+arg2 g l = 4 * length l.front.now + 1

abbrev pub decreases-play_both-join_mut+arg3 : goal.decreases-play_both-join_mut+arg3
decreases-play_both-join_mut+arg3 g l = 4 * length l.back.now + 1

abbrev pub decreases-play_all : goal.decreases-play_all
decreases-play_all g l = 4 * length l.jobs.now

abbrev pub decreases-play_both : goal.decreases-play_both
decreases-play_both g l = 4 * (length l.front.now + length l.back.now) - 1
