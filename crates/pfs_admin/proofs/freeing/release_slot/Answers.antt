use Rattle.std.proofs.Common.{arith}
use Rattle.pfs_admin.proofs.RowReleases.{stays_wider}
use Rattle.pfs_admin.proofs.freeing.release_slot.Goals as goal

pub returns-then-there-clause-stays : goal.returns-then-there-clause-stays
returns-then-there-clause-stays g c =
    stays_wider c.args.count 10 _ _ _ _ (omega (arith, c.requires.count)) c.release_rows.ensures.stays
