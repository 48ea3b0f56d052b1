use Rattle.pfs_law_report.proofs.NameTexts.{all_texts}
use Rattle.pfs_law_report.proofs.report_values.names.Goals as goal

pub returns : goal.returns
returns c = all_texts
