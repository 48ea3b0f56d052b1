use Rattle.std.proofs.Common.{take}
use Rattle.std.specs.List.{flat_map}
use Rattle.pfs_script.specs.declared.blocks.Phase.{Phase}
use Rattle.pfs_check_facts.specs.SessionFacts.{AreCoursesOf}
use Rattle.pfs_check_facts.proofs.script.courses_of.Given as goal

abbrev pub invariant-loop-phase : goal.invariant-loop-phase
invariant-loop-phase l = AreCoursesOf (flat_map (λ (phase : Phase). phase.blocks) (take l.phase-index l.phases)) l.courses
