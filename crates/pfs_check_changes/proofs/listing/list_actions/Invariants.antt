use Rattle.std.proofs.Common.{take}
use Rattle.std.specs.List.{flat_map}
use Rattle.pfs_script.specs.declared.blocks.Phase.{Phase}
use Rattle.pfs_check_changes.specs.ActionNumbers.{AreListedTo}
use Rattle.pfs_check_changes.proofs.listing.list_actions.Given as goal

abbrev pub invariant-loop-phase : goal.invariant-loop-phase
invariant-loop-phase l = AreListedTo (flat_map (λ (phase : Phase). phase.blocks) (take l.phase-index l.phases)) l.actions
