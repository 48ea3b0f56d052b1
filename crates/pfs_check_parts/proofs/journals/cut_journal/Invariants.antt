use Rattle.pfs_model.specs.Contexts.{Context}
use Rattle.pfs_check_trail.specs.Trails.{IsTrailOf}
use Rattle.pfs_check_parts.proofs.LineSteps.{IsUnder}
use Rattle.pfs_check_parts.proofs.journals.cut_journal.Given as goal

abbrev pub invariant-loop-line : goal.invariant-loop-line
invariant-loop-line l = (context : Context) → IsTrailOf context l.fn.trail
    → IsUnder l.lines l.entries context l.ends.items l.trail l.line-index l.at
