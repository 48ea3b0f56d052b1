use Rattle.pfs_check_causes.proofs.WordFacts.{released_tells}
use Rattle.pfs_check_causes.proofs.words.is_released.Goals as goal

pub returns : goal.returns
returns c = λ all earlier place known phase.
    released_tells all place c.args.rows.now.releases.freed c.args.row c.args.version c.args.phase c.was_released.result
    known.releases.freed phase c.was_released.ensures
