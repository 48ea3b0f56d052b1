use Rattle.std.proofs.Common.{◌∙◌, ap}
use Rattle.pfs_switches.specs.SeatViews.{Known as WordsKnown}
use Rattle.pfs_test_store.proofs.seats.fresh_words.Goals as goal

pub returns-clause-words : goal.returns-clause-words
returns-clause-words c =
    (c.args.flags.now, ap (λ (k : WordsKnown). k.view.start) c.in_ok-words.ensures.seat ∙ c.in_ok-words.ensures.words)
