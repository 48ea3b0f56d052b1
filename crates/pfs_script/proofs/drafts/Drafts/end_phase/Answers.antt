use Rattle.std.proofs.Common.{◌∙◌, map, ap}
use Rattle.pfs_script.specs.declared.drafts.Drafts.{Drafts}
use Rattle.pfs_script.specs.Drafts.{phase_named}
use Rattle.pfs_script.proofs.DraftSteps.{phase_ended, no_phase_ended}
use Rattle.pfs_script.proofs.drafts.Drafts.end_phase.Goals.{then-self+in_ok-push, else-self}
use Rattle.pfs_script.proofs.drafts.Drafts.end_phase.Goals as goal

pub returns-clause-phases : goal.returns-clause-phases
returns-clause-phases c sense =
    let ended = c.in_ok-end_block.ensures in
    elim c.if-self.branch [
      | then-self+in_ok-push w ↦
          ap (λ (drafts : Drafts). map (phase_named sense.names) drafts.phases.items) w.self-is
          ∙ phase_ended sense c.args.self.now c.end_block.new.self record { blocks = c.replace-blocks.result } w.push.new.self.items
          ended.same w.if-self.true (ended.blocks sense.names) c.replace-blocks.ensures.value w.in_ok-push.ensures.items
      | else-self w ↦
          ap (λ (drafts : Drafts). map (phase_named sense.names) drafts.phases.items) w.self-is
          ∙ no_phase_ended sense c.args.self.now c.end_block.new.self ended.same w.if-self.false
    ]
