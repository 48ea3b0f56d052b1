use Rattle.pfs_event.proofs.SameEvent.{same_event}
use Rattle.pfs_event.proofs.laws.words.Goals as goal

pub returns : goal.returns
returns c = same_event
