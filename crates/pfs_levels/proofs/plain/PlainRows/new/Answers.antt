use Rattle.pfs_levels.proofs.OpeningStore.{opened, word_opens}
use Rattle.pfs_levels.proofs.plain.PlainRows.new.Goals as goal

pub returns-clause-opened : goal.returns-clause-opened
returns-clause-opened c = λ start e. opened _ _ _ _ c.requires e c.in_ok-slots.ensures.each c.in_ok-words.ensures

pub returns-clause-versions : goal.returns-clause-versions
returns-clause-versions c = λ at. word_opens _ _ at c.in_ok-words.ensures
