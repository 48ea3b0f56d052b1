use Rattle.pfs_law_report.proofs.NameTexts.{all_digests}
use Rattle.pfs_law_report.proofs.report_values.texts.Goals as goal

pub returns : goal.returns
returns c = all_digests
