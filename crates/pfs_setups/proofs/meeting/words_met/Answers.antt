use Rattle.pfs_setups.specs.SetupRows.{words_met}
use Rattle.pfs_setups.proofs.meeting.words_met.Goals as goal

pub returns : goal.returns
unfolding words_met
returns c = c.met_up_to.ensures
