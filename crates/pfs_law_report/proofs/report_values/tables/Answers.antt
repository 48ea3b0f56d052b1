use Rattle.pfs_law_report.proofs.FinalTables.{all_tables}
use Rattle.pfs_law_report.proofs.report_values.tables.Goals as goal

pub returns : goal.returns
returns c = all_tables
