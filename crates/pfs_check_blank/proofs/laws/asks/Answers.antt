use Rattle.pfs_check_blank.proofs.BlankWorks.{asks_law, whole_law}
use Rattle.pfs_check_blank.proofs.WrittenWords.{words_law}
use Rattle.pfs_check_blank.proofs.laws.asks.Goals as goal

pub returns-clause-asked : goal.returns-clause-asked
returns-clause-asked c = asks_law

pub returns-clause-whole : goal.returns-clause-whole
returns-clause-whole c = whole_law

pub returns-clause-words : goal.returns-clause-words
returns-clause-words c = words_law
