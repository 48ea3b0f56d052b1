use Rattle.pfs_setups.proofs.OtherWords.{others_stay}
use Rattle.pfs_setups.proofs.laws.other_words_stay.Goals as goal

pub returns : goal.returns
returns c = others_stay
