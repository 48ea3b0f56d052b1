use Rattle.pfs_law_report.proofs.NameTexts.{all_tables_named}
use Rattle.pfs_law_report.proofs.report_values.table_names.Goals as goal

pub returns : goal.returns
returns c = all_tables_named
