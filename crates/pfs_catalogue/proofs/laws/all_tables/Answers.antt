use Rattle.pfs_catalogue.proofs.TableLookups.{each_table}
use Rattle.pfs_catalogue.proofs.laws.all_tables.Goals as goal

pub returns : goal.returns
returns c = each_table
