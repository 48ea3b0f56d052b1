use Rattle.pfs_model.specs.Chains.{row_change}
use Rattle.pfs_check_floors.specs.RowNames.{rows_shown}
use Rattle.pfs_check_causes.proofs.WordFacts.{word_tells}
use Rattle.pfs_check_causes.proofs.words.is_word.Goals as goal

pub returns : goal.returns
returns c = λ all earlier place known at.
    word_tells all earlier place c.args.row c.args.word c.is_seen_well-seen.result c.is_seen_word.result
    (c.is_seen_well-seen.ensures row_change rows_shown all earlier place known.floors at) c.is_seen_word.ensures
