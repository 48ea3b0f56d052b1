use Rattle.std.proofs.Common.{rules, ◌<◌, ◌+◌, ◌^◌, subst, ◌∙◌, arith}
use Rattle.std.proofs.lemmas.Grind.{common_steps}
use Rattle.pfs_containers.proofs.FilledPlaces.{whole_is}
use Rattle.pfs_admin.specs.Works.{word_at}
use Rattle.pfs_admin.specs.AdministrationStates.{words_by}
use Rattle.pfs_admin.proofs.QuitCosts.{early_at, len_by, state_keeps}
use Rattle.pfs_admin.proofs.FoldSteps.{follows}
use Rattle.pfs_admin.proofs.admin.Admin.quit.Goals as goal

pub write_quit-requires-clause-early : goal.write_quit-requires-clause-early
write_quit-requires-clause-early g c = λ at.
    let few : c.self.inside.actions < 2 ^ 47 = search rules in
    let early : (word_at c.self.inside.words.items at).version + 1 < 2 ^ 48 =
    omega (arith, early_at c.self.inside.actions at c.self.inside.words.items c.self.invariant.words_early, few) in
    subst (λ z. (word_at z at).version + 1 < 2 ^ 48) (search rules) early

pub invariant_of-self : goal.invariant_of-self
invariant_of-self g c =
    let words = c.self.inside.words.items in
    state_keeps _ _ 0 c.quit-seat.result _ c.self.invariant (search rules)
    (whole_is c.self.inside.words.len c.write_quit.new.words words (words_by words 0 c.quit-seat.result) (search rules)
    (len_by 0 words c.quit-seat.result ∙ search rules))

pub returns-clause-stands : goal.returns-clause-stands
returns-clause-stands g c = follows _ _ _ _ (grind (arith, common_steps))
