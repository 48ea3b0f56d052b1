use Rattle.std.proofs.Common.{arith}
use Rattle.pfs_catalogue.proofs.TableLookups.{short}
use Rattle.pfs_catalogue.proofs.tables.without_schema.Goals as goal

pub returns-then-name : goal.returns-then-name
returns-then-name c = short c.args.name.now (omega arith)
