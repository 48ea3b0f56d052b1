use Rattle.std.proofs.Common.{List, ◌++◌, take}
use Rattle.pfs_script.specs.declared.blocks.Block.{Block}
use Rattle.pfs_check_facts.specs.SessionFacts.{AreCoursesOf}
use Rattle.pfs_check_facts.proofs.courses.follow_blocks.Given as goal

abbrev pub invariant-loop-block : goal.invariant-loop-block
invariant-loop-block l = (before : List Block) → AreCoursesOf before l.fn.courses
    → AreCoursesOf (before ++ take l.block-index l.blocks) l.courses
