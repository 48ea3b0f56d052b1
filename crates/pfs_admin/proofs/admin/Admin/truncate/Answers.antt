use Rattle.std.proofs.Common.{rules, ◌<◌, ◌+◌, ◌^◌, ap, subst, ◌∙◌, arith}
use Rattle.std.proofs.lemmas.Grind.{common_steps}
use Rattle.pfs_containers.proofs.FilledPlaces.{whole_is}
use Rattle.pfs_containers.specs.ContainerState.{Kept}
use Rattle.pfs_admin.specs.Works.{word_at}
use Rattle.pfs_admin.specs.Truncations.{words_behind}
use Rattle.pfs_admin.proofs.QuitCosts.{early_at}
use Rattle.pfs_admin.proofs.FoldSteps.{follows}
use Rattle.pfs_admin.proofs.WordChanges.{wide_behind, truncated_keeps}
use Rattle.pfs_admin.proofs.admin.Admin.truncate.Goals as goal

pub write_truncation-requires-clause-early : goal.write_truncation-requires-clause-early
write_truncation-requires-clause-early g c = λ at.
    let few : c.self.inside.actions < 2 ^ 47 = search rules in
    let early : (word_at c.self.inside.words.items at).version + 1 < 2 ^ 48 =
    omega (arith, early_at c.self.inside.actions at c.self.inside.words.items c.self.invariant.words_early, few) in
    subst (λ z. (word_at z at).version + 1 < 2 ^ 48) (search rules) early

pub invariant_of-self : goal.invariant_of-self
invariant_of-self g c =
    let words = c.self.inside.words.items in
    truncated_keeps _ c.args.what _ _ _ _ c.self.invariant (ap (λ (z : Kept). z.connects) c.write_truncation.ensures.kept)
    (whole_is c.self.inside.words.len c.write_truncation.new.words words (words_behind c.args.what words) (search rules)
    (wide_behind c.args.what words ∙ search rules))

pub returns-clause-stands : goal.returns-clause-stands
returns-clause-stands g c = λ session. follows session _ _ _ (grind (arith, common_steps))
