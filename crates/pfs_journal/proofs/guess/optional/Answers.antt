use Rattle.pfs_journal.proofs.WordReadings.{number_told, dash_told}
use Rattle.pfs_journal.proofs.guess.optional.Goals as goal

pub returns-in-Some : goal.returns-in-Some
returns-in-Some c = λ number fits same. number_told c.args.word.now c.in-Some.number number c.in-Some.ensures.0.0 c.in-Some.ensures.1 fits same

pub returns-in-None : goal.returns-in-None
returns-in-None c = λ number fits same. rw c.dash.ensures (dash_told c.args.word.now number c.in-None.ensures fits same)
