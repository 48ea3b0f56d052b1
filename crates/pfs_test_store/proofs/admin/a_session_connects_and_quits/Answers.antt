use Rattle.std.proofs.Common.{◌∙◌}
use Rattle.pfs_test_store.proofs.admin.a_session_connects_and_quits.Goals as goal

pub quit-requires-clause-alone : goal.quit-requires-clause-alone
quit-requires-clause-alone g c = λ r h. c.connect-placed.ensures.used.hand r ∙ c.in_ok-rows.ensures.hand r
