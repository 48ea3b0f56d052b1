use Rattle.std.proofs.Common.{ap, sym, ◌∙◌}
use Rattle.std.specs.Prelude.{[]}
use Rattle.pfs_model.specs.Chains.{word_change}
use Rattle.pfs_model.specs.Floors.{loads_in}
use Rattle.pfs_check_ends.proofs.ShownEnds.{word_shown}
use Rattle.pfs_check_ends.proofs.standing.EndsStanding.reading.Goals as goal

pub returns-in-Row-clause-shown : goal.returns-in-Row-clause-shown
returns-in-Row-clause-shown c = λ shown s. c.row_at.ensures shown s ∙ ap (shown c.args.phase) (sym c.in-Row.is)

pub returns-in-Word-clause-shown : goal.returns-in-Word-clause-shown
returns-in-Word-clause-shown c = λ shown s.
    let v = c.had-version.ensures word_change loads_in s.all [] s.sights.sights_are.words in
    word_shown c.args.self.now shown s c.args.phase c.in-Word.word c.had-version.result c.flags_at-flags.result v c.flags_at-flags.ensures ∙ ap (shown c.args.phase) (sym c.in-Word.is)
