use Rattle.std.proofs.Common.{List, ◌++◌}
use Rattle.pfs_script.specs.Marks.{written_out}
use Rattle.pfs_script.specs.declared.blocks.BlockLine.{BlockLine}
use Rattle.pfs_check_facts.specs.FollowedLines.{IsUpTo}
use Rattle.pfs_check_facts.specs.Moments.{IsCourseOf}
use Rattle.pfs_check_facts.proofs.blocks.follow_block.Given as goal

abbrev pub invariant-loop-place : goal.invariant-loop-place
invariant-loop-place l = (lines : List BlockLine) → IsCourseOf lines l.fn.course
    → IsUpTo l.said (lines ++ written_out l.said) l.course l.place l.repeat
