use Rattle.std.proofs.Common.{take}
use Rattle.pfs_check_contents.specs.ChangeReplays.{done_of}
use Rattle.pfs_check_contents.specs.RunningReplays.{IsReplay}
use Rattle.pfs_check_contents.proofs.replays.replay.Given as goal

abbrev pub invariant-loop-place : goal.invariant-loop-place
invariant-loop-place l = IsReplay (done_of l.changes (take l.place-index l.order)) l.replay
