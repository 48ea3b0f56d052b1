use Rattle.pfs_check_versions.proofs.LabelSteps.{LabelledSoFar}
use Rattle.pfs_check_versions.proofs.labelling.label_actions.Given as goal

abbrev pub invariant-loop-place : goal.invariant-loop-place
invariant-loop-place l = LabelledSoFar l.actions l.counts l.labels.items l.place
