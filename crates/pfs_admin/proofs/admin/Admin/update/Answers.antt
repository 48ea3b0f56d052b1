use Rattle.std.proofs.Common.{rules, ◌<◌, ◌+◌, ◌^◌, subst, ◌∙◌, arith}
use Rattle.std.proofs.lemmas.Grind.{common_steps}
use Rattle.pfs_containers.proofs.FilledPlaces.{whole_is}
use Rattle.pfs_admin.specs.Works.{word_at}
use Rattle.pfs_admin.specs.SetupStatements.{first_of, most_of}
use Rattle.pfs_admin.specs.declared.changes.SetupStatement.{SetupStatement}
use Rattle.pfs_admin.specs.declared.changes.SetupStatement.TheVariants as statements
use Rattle.pfs_admin.proofs.QuitCosts.{early_at}
use Rattle.pfs_admin.proofs.FoldSteps.{changed_keeps, follows}
use Rattle.pfs_admin.proofs.WordChanges.{changed_length}
use Rattle.pfs_admin.proofs.SignLists.{worked_words}
use Rattle.pfs_admin.proofs.admin.Admin.update.Goals as goal

pub set_updated-requires-clause-early : goal.set_updated-requires-clause-early
set_updated-requires-clause-early g c = λ at.
    let few : c.self.inside.actions < 2 ^ 47 = search rules in
    let early : (word_at c.self.inside.words.items at).version + 1 < 2 ^ 48 =
    omega (arith, early_at c.self.inside.actions at c.self.inside.words.items c.self.invariant.words_early, few) in
    subst (λ z. (word_at z at).version + 1 < 2 ^ 48) (search rules) early

pub invariant_of-self : goal.invariant_of-self
invariant_of-self g c =
    let words = c.self.inside.words.items in
    let what : SetupStatement = statements.Update c.args.what.now in
    changed_keeps _ what _ _ _ c.self.invariant
    (whole_is c.self.inside.words.len c.set_updated.new.words words _ (search rules)
    (changed_length _ words (first_of what) (most_of what) ∙ search rules))

pub returns-clause-stands : goal.returns-clause-stands
returns-clause-stands g c = λ session. follows session _ _ _ (grind (arith, common_steps))

pub returns-clause-worked : goal.returns-clause-worked
returns-clause-worked g c = worked_words _ _ _ _ _ _ (search rules)
