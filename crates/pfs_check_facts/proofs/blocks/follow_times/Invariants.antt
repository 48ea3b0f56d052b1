use Rattle.std.proofs.Common.{List, ◌++◌}
use Rattle.pfs_script.specs.Marks.{copies}
use Rattle.pfs_script.specs.declared.blocks.BlockLine.{BlockLine}
use Rattle.pfs_check_facts.specs.Moments.{IsCourseOf}
use Rattle.pfs_check_facts.proofs.blocks.follow_times.Given as goal

abbrev pub invariant-loop-round : goal.invariant-loop-round
invariant-loop-round l = (lines : List BlockLine) → IsCourseOf lines l.fn.course
    → IsCourseOf (lines ++ copies l.round l.said) l.course
