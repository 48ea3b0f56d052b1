use Rattle.pfs_check_contents.proofs.ReplaySteps.{none_replayed}
use Rattle.pfs_check_contents.proofs.replays.Replayed.new.Goals as goal

pub returns : goal.returns
returns c = none_replayed _ c.none_kept.ensures
