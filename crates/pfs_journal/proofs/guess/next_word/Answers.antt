use Rattle.std.proofs.Common.{ap, ◌∙◌}
use Rattle.pfs_journal.specs.LineWords.{front_word, behind_word}
use Rattle.pfs_journal.proofs.WordReadings.{next_told, rest_whole}
use Rattle.pfs_journal.proofs.guess.next_word.Goals as goal

pub returns : goal.returns
returns c = λ word behind leads.
    next_told c.args.bytes.now word behind c.first_word.result.0.now c.first_word.result.1.now leads (c.first_word.ensures.word ∙ ap front_word (rest_whole c.args.bytes.now)) (c.first_word.ensures.behind ∙ ap behind_word (rest_whole c.args.bytes.now))
