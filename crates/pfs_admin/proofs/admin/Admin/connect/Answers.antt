use Rattle.std.proofs.Common.{rules, ◌<◌, ◌+◌, ◌^◌, [], subst, ◌∙◌, arith}
use Rattle.std.proofs.lemmas.Grind.{common_steps}
use Rattle.pfs_containers.proofs.FilledPlaces.{whole_is}
use Rattle.pfs_admin.specs.Works.{word_at, Worked}
use Rattle.pfs_admin.specs.AdministrationStates.{words_by}
use Rattle.pfs_admin.specs.ConnectionAsks.{work_of_connect}
use Rattle.pfs_admin.proofs.QuitCosts.{early_at, len_by, state_keeps}
use Rattle.pfs_admin.proofs.FoldSteps.{follows}
use Rattle.pfs_admin.proofs.SignLists.{worked_behind}
use Rattle.pfs_admin.proofs.admin.Admin.connect.Goals as goal

pub write_connect-requires-clause-early : goal.write_connect-requires-clause-early
write_connect-requires-clause-early g c = λ at.
    let few : c.self.inside.actions < 2 ^ 47 = search rules in
    let early : (word_at c.self.inside.words.items at).version + 1 < 2 ^ 48 =
    omega (arith, early_at c.self.inside.actions at c.self.inside.words.items c.self.invariant.words_early, few) in
    subst (λ z. (word_at z at).version + 1 < 2 ^ 48) (search rules) early

pub invariant_of-self : goal.invariant_of-self
invariant_of-self g c =
    let words = c.self.inside.words.items in
    state_keeps _ _ c.thread_flags-flags.result c.connect-seat.result _ c.self.invariant (search rules)
    (whole_is c.self.inside.words.len c.write_connect.new.words words (words_by words c.thread_flags-flags.result c.connect-seat.result) (search rules)
    (len_by c.thread_flags-flags.result words c.connect-seat.result ∙ search rules))

pub returns-clause-worked : goal.returns-clause-worked
returns-clause-worked g c =
    let done : Worked (work_of_connect c.args.self.now c.args.number c.args.user c.args.host) c.args.self.now.words [] c.push.new.self
    c.write_connect.new.log (g.H.Readable.seen c.args.rows.now).reached (g.H.Readable.seen c.write_connect.new.rows).reached = search rules in
    worked_behind _ _ _ _ _ _ _ _ (search rules) done

pub returns-clause-stands : goal.returns-clause-stands
returns-clause-stands g c = follows _ _ _ _ (grind (arith, common_steps))
