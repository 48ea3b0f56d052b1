use Rattle.pfs_admin.proofs.StatementWords.{each_word}
use Rattle.pfs_admin.proofs.laws.each_word_has_its_flags.Goals as goal

pub returns : goal.returns
returns c = each_word
