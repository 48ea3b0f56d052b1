use Rattle.pfs_html.proofs.PhaseReadings.{phases_read}
use Rattle.pfs_html.proofs.laws.phases_stand_in_order.Goals as goal

pub returns : goal.returns
returns c = phases_read
