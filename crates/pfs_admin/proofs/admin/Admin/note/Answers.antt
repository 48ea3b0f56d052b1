use Rattle.std.proofs.Common.{rules, refl}
use Rattle.pfs_admin.specs.WordChanges.{words_changed}
use Rattle.pfs_admin.specs.declared.changes.SetupStatement.TheVariants.{Show}
use Rattle.pfs_admin.proofs.FoldSteps.{changed_keeps, follows}
use Rattle.pfs_admin.proofs.admin.Admin.note.Goals as goal

pub invariant_of-self : goal.invariant_of-self
unfolding words_changed
invariant_of-self c = changed_keeps _ Show _ _ _ c.self.invariant refl

pub returns-clause-stands : goal.returns-clause-stands
unfolding words_changed
returns-clause-stands c = λ session. follows session _ _ _ (search rules)
