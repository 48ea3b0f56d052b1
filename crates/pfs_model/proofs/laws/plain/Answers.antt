use Rattle.pfs_model.proofs.PlainAgreement.{plain_keeps}
use Rattle.pfs_model.proofs.laws.plain.Goals as goal

pub returns : goal.returns
returns c = plain_keeps
