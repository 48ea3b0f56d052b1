use Rattle.pfs_sql.proofs.WordNumbers.{number_read}
use Rattle.pfs_sql.proofs.words.number_of.Goals as goal

pub returns : goal.returns
returns c = number_read c.args.word.now c.read_u64.result c.read_u64.ensures
