use Rattle.pfs_check_misfits.proofs.WrongLines.{wrong_lines}
use Rattle.pfs_check_misfits.proofs.laws.wrong_lines.Goals as goal

pub returns : goal.returns
returns c = wrong_lines c.misfits.ensures c.cuts.ensures.exact
