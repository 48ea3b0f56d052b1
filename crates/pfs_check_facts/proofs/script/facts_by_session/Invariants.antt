use Rattle.std.proofs.Common.{ℕ, List}
use Rattle.std.specs.BTreeMap.{btree_map_len, get}
use Rattle.std.specs.Ordering.{nat_cmp}
use Rattle.pfs_script.specs.declared.blocks.BlockLine.{BlockLine}
use Rattle.pfs_check_facts.specs.SessionFacts.{IsCourseFor}
use Rattle.pfs_check_facts.proofs.SessionSteps.{IsTurned}
use Rattle.pfs_check_facts.proofs.script.facts_by_session.Given as goal

abbrev pub invariant-loop-session : goal.invariant-loop-session
invariant-loop-session l = (session : ℕ) → (lines : List BlockLine) → IsCourseFor lines (get nat_cmp l.fn.courses session)
    → IsTurned lines (get nat_cmp l.courses session) (get nat_cmp l.sessions session)

abbrev pub decreases-loop-session : goal.decreases-loop-session
decreases-loop-session l = btree_map_len l.courses
