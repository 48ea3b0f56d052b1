use Rattle.std.proofs.Common.{◌∙◌}
use Rattle.pfs_script.proofs.OpenKinds.{same_test}
use Rattle.pfs_script.proofs.open_kinds.OpenKinds.is_same.Goals as goal

pub returns : goal.returns
returns c = c.eq.ensures ∙ same_test c.args.self.now c.args.other.now
