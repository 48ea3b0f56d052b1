use Rattle.std.proofs.Common.{rules}
use Rattle.pfs_admin.proofs.SignLists.{signed_release}
use Rattle.pfs_admin.proofs.signs.release.Goals as goal

pub returns-clause-signed : goal.returns-clause-signed
returns-clause-signed g c =
    signed_release _ _ _ _ _ _ _ _ c.take-version.ensures.call (c.free.ensures.call _ c.take-version.ensures.mine) (search rules)
