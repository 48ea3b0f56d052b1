use Rattle.std.proofs.Common.{refl, true}
use Rattle.pfs_script.specs.declared.drafts.Drafts.{Drafts}
use Rattle.pfs_script.proofs.DraftSteps.{phase_begun}
use Rattle.pfs_script.proofs.drafts.Drafts.begin_phase.Goals as goal

pub returns-clause-phases : goal.returns-clause-phases
returns-clause-phases c sense lines =
    let ended = c.in_ok-end_phase.ensures in
    let begun : Drafts = record c.end_phase.new.self { has_phase = true } in
    phase_begun sense c.args.self.now begun lines (ended.phases sense) refl ended.blocks ended.front ended.lines
