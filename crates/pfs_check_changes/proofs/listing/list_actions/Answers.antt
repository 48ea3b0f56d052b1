use Rattle.std.proofs.Common.{List, ◌++◌, subst, take}
use Rattle.std.proofs.lemmas.List.{take_all}
use Rattle.std.specs.List.{flat_map}
use Rattle.pfs_script.specs.declared.blocks.Block.{Block}
use Rattle.pfs_script.specs.declared.blocks.Phase.{Phase}
use Rattle.pfs_check_changes.specs.ActionNumbers.{AreListedTo}
use Rattle.pfs_check_changes.proofs.ListedBlocks.{phases_more}
use Rattle.pfs_check_changes.proofs.listing.list_actions.Goals as goal

pub loop-phase-preserved : goal.loop-phase-preserved
loop-phase-preserved c =
    let before : List Block = flat_map (λ (phase : Phase). phase.blocks) (take c.loop-phase.phase-index c.args.phases.now) in
    phases_more c.args.phases.now c.loop-phase.phase-index c.phase-item.result c.list_blocks.new.actions c.loop-phase-test.true c.phase-item.is
    (subst (λ z. AreListedTo (before ++ z) c.list_blocks.new.actions) c.as_slice.ensures (c.in_ok-list_blocks.ensures before c.loop-phase.invariant))

pub returns : goal.returns
returns c =
    subst (λ z. AreListedTo (flat_map (λ (phase : Phase). phase.blocks) z) c.loop-phase.actions)
    (take_all c.loop-phase.phase-index c.args.phases.now c.loop-phase-test.false) c.loop-phase.invariant
