use Rattle.pfs_script.proofs.EventLemmas.{session_events}
use Rattle.pfs_script.proofs.laws.events.Goals as goal

pub returns : goal.returns
returns c = session_events
