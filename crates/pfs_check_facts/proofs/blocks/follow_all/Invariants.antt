use Rattle.std.proofs.Common.{List, ◌++◌, take}
use Rattle.pfs_script.specs.declared.blocks.BlockLine.{BlockLine}
use Rattle.pfs_check_facts.specs.Moments.{IsCourseOf}
use Rattle.pfs_check_facts.proofs.blocks.follow_all.Given as goal

abbrev pub invariant-loop-line : goal.invariant-loop-line
invariant-loop-line l = (lines : List BlockLine) → IsCourseOf lines l.fn.course
    → IsCourseOf (lines ++ take l.line-index l.said) l.course
