use Rattle.pfs_catalogue.proofs.TableLookups.{one_name}
use Rattle.pfs_catalogue.proofs.laws.one_table.Goals as goal

pub returns : goal.returns
returns c a b name is_a is_b = c.table_names_differ.ensures a b (one_name a b name is_a is_b)
