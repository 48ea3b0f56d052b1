use Rattle.pfs_check_named.proofs.NamedFacts.{changes_named}
use Rattle.pfs_check_named.proofs.laws.named_changes.Goals as goal

pub returns : goal.returns
returns c = changes_named c.named.ensures
