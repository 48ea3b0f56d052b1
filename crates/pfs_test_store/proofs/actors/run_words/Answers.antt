use Rattle.std.proofs.Common.{◌∙◌, ap}
use Rattle.pfs_admin.specs.OpeningState.{opening_flags}
use Rattle.pfs_admin.proofs.OpeningState.{flags_count}
use Rattle.pfs_board_admin.proofs.NewWords.{fresh_words}
use Rattle.pfs_matching.specs.ObjectRules.{opening_objects}
use Rattle.pfs_board_store.specs.WriterWords.{words_of}
use Rattle.pfs_switches.specs.Knowledge.{writer, whole}
use Rattle.pfs_switches.specs.OpeningWords.{opening_words}
use Rattle.pfs_test_store.proofs.actors.run_words.Goals as goal

pub returns-clause-lent : goal.returns-clause-lent
returns-clause-lent c =
    let x = c.in_ok-opened.ensures in
    (λ i. words_of (x.writer i).view) ∙ (λ i. words_of (writer (whole (x.words i))))
    ∙ ap (λ fs. words_of (writer (whole (opening_words fs)))) (c.as_slice.ensures.value ∙ c.in_ok-flags.ensures.flags ∙ ap (λ os. opening_flags c.args.setting.now os) c.in_ok-objects.ensures)
    ∙ fresh_words (opening_flags c.args.setting.now opening_objects) (flags_count c.args.setting.now opening_objects)
