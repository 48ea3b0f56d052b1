use Rattle.std.proofs.Common.{rules}
use Rattle.pfs_admin.proofs.SignLists.{signed_tag}
use Rattle.pfs_admin.proofs.signs.tag.Goals as goal

pub returns-clause-signed : goal.returns-clause-signed
returns-clause-signed g c =
    signed_tag _ _ _ _ _ _ _ _ _ _ c.take.ensures.call c.put-version.ensures.call
    (c.put-version.ensures.next _ c.take.ensures.mine) (search rules)
