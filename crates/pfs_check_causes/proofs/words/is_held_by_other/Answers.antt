use Rattle.std.proofs.Common.{sym, arith}
use Rattle.pfs_check_causes.proofs.WordFacts.{held_tells}
use Rattle.pfs_check_causes.proofs.words.is_held_by_other.Goals as goal

pub returns : goal.returns
returns c = λ all earlier place known made at.
    held_tells all place c.args.row c.args.word c.is_others-others.result c.is_released-released.result c.is_put_back.result
    (c.is_others-others.ensures all earlier place known made at (omega arith))
    (c.is_released-released.ensures all earlier place known (sym at.phase)) c.is_put_back.ensures
