use Rattle.pfs_admin.proofs.SignLists.{signed_then}
use Rattle.pfs_admin.proofs.tags.tag_uppers.Goals as goal

pub returns-clause-signed : goal.returns-clause-signed
returns-clause-signed g c =
    signed_then _ _ _ _ _ _ _ _ c.tag_account.ensures.signed (signed_then _ _ _ _ _ _ _ _ c.tag_user.ensures.signed c.tag_host.ensures.signed)
