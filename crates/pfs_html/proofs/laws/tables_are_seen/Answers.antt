use Rattle.pfs_html.proofs.TableReadings.{table_read}
use Rattle.pfs_html.proofs.laws.tables_are_seen.Goals as goal

pub returns : goal.returns
returns c = table_read
