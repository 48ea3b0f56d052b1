use Rattle.pfs_reader.proofs.PlainReadings.{all_found}
use Rattle.pfs_reader.proofs.laws.finds_what_stands.Goals as goal

pub returns : goal.returns
returns c = all_found
