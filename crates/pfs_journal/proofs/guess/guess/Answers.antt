use Rattle.std.proofs.Common.{ap, ◌∙◌}
use Rattle.pfs_journal.specs.LineWords.{front_word, behind_word, line_word, line_rest}
use Rattle.pfs_journal.proofs.WordReadings.{word_front}
use Rattle.pfs_journal.proofs.Guesses.{line_clean}
use Rattle.pfs_journal.proofs.LineReadings.{line_behind}
use Rattle.pfs_journal.proofs.guess.guess.Goals as goal

pub returns : goal.returns
returns c = λ line good fits same.
    let told = word_front (line_word line) (line_rest line) (line_clean line) (line_behind line) in
    c.by_word.ensures line good fits (c.first_word.ensures.word ∙ (ap front_word same ∙ told.0)) (c.first_word.ensures.behind ∙ (ap behind_word same ∙ told.1))
