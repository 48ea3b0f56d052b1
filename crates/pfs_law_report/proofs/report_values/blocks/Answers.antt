use Rattle.pfs_law_report.proofs.RunAnswers.{all_reportable}
use Rattle.pfs_law_report.proofs.report_values.blocks.Goals as goal

pub returns : goal.returns
returns c = all_reportable c.rows_are_of_the_text.ensures
