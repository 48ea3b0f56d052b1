use Rattle.pfs_law_session.proofs.RingLayout.{one_layout}
use Rattle.pfs_law_session.proofs.rings.one_layout.Goals as goal

pub returns : goal.returns
returns c = one_layout
