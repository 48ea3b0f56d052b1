use Rattle.std.proofs.Common.{take}
use Rattle.pfs_runs.specs.ScriptLines.{change_in}
use Rattle.pfs_check_orders.specs.Replays.{IsReplayed}
use Rattle.pfs_check_orders.proofs.replaying.replay.Given as goal

abbrev pub invariant-loop-label : goal.invariant-loop-label
invariant-loop-label l = IsReplayed l.setting (change_in l.phases) (take l.label-index l.labels) l.replay.admin
    l.replay.blank l.replay.kept
