use Rattle.std.proofs.Common.{ℕ, ◌+◌, ◌-◌, ◌∙◌, length, refl, subst, arith}
use Rattle.pfs_admin.proofs.FoldSteps.{follows}
use Rattle.pfs_admin.specs.declared.changes.Change.TheVariants.{Connect}
use Rattle.pfs_board.specs.declared.view.Label.{Label}
use Rattle.pfs_law_plain.specs.Spells.{label_of}
use Rattle.pfs_law_session.specs.Deeds.{Connecting}
use Rattle.pfs_levels.specs.Calls.{Begins}
use Rattle.pfs_actor.proofs.PlainActions.{as_many_names, has_acted, may_work}
use Rattle.pfs_actor.proofs.PlainSteps.{others_free, store_of, used_up}
use Rattle.pfs_actor.proofs.plain.PlainActorActor.connect.Goals as goal

pub connect-requires-clause-may : goal.connect-requires-clause-may
connect-requires-clause-may g c =
    let s = c.args.session.now.state in
    may_work g.N.Named.setting g.N.Named.change 4 5 6 6 c.enter.result (store_of c.args.self.now.rows) (store_of c.enter.new.self) c.args.self.now.admin (label_of s) c.args.session.now.journal
    (omega arith) (omega arith) c.args.self.now.idle c.args.self.now.lent c.requires.acts (λ start calls at. at.answers)
    (subst (λ (label : Label). Begins (store_of c.args.self.now.rows).reached (store_of c.enter.new.self).reached label c.enter.result) c.label-label.ensures c.enter.ensures.call) c.enter.ensures.number c.enter.ensures.kept

pub connect-requires-clause-user : goal.connect-requires-clause-user
connect-requires-clause-user g c = omega (arith, c.requires.may.user_named, as_many_names g.N.Named.setting g.N.Named.change (store_of c.args.self.now.rows) c.args.self.now.admin c.requires.acts.begun)

pub connect-requires-clause-host : goal.connect-requires-clause-host
connect-requires-clause-host g c = omega (arith, c.requires.may.host_named, as_many_names g.N.Named.setting g.N.Named.change (store_of c.args.self.now.rows) c.args.self.now.admin c.requires.acts.begun)

pub leave-requires-clause-alone : goal.leave-requires-clause-alone
leave-requires-clause-alone g c = λ r above. c.connect.ensures.used.hand r ∙ others_free (c.enter.result - 1) (store_of c.args.self.now.rows) (store_of c.enter.new.self) c.args.self.now.idle c.enter.ensures.kept r above

pub returns-clause-acted : goal.returns-clause-acted
returns-clause-acted g c =
    let admin = c.args.self.now.admin in
    has_acted g.N.Named.setting g.N.Named.change (Connect c.args.user c.args.host) (λ admin. Connecting admin c.args.user c.args.host) admin c.connect.new.admin c.enter.result (admin.actions + 1) c.args.session.now c.connect.new.self (store_of c.args.self.now.rows) (store_of c.enter.new.self) (store_of c.connect.new.rows) (store_of c.leave.new.self) refl
    (λ labels is. (is, c.requires.named)) (follows c.args.session.now.state.number (Connect c.args.user c.args.host) admin c.connect.new.admin c.connect.ensures.admin) c.requires.named (λ start calls at. at.answers)
    (subst (λ (label : Label). Begins (store_of c.args.self.now.rows).reached (store_of c.enter.new.self).reached label c.enter.result) c.label-label.ensures c.enter.ensures.call) c.connect.ensures.played c.leave.ensures.call

pub returns-clause-used : goal.returns-clause-used
returns-clause-used g c =
    let s = c.args.session.now.state in
    used_up g.N.Named.setting g.N.Named.change 4 5 6 6 (c.enter.result - 1) c.connect.new.admin.words (store_of c.args.self.now.rows) (store_of c.enter.new.self) (store_of c.connect.new.rows) (store_of c.leave.new.self) c.args.self.now.admin c.connect.new.admin c.args.session.now.journal c.connect.new.self.journal
    (omega arith) (omega arith) c.enter.ensures.kept c.connect.ensures.used c.leave.ensures.kept

pub invariant_of-self : goal.invariant_of-self
invariant_of-self g c = record {
  idle = λ r. c.leave.ensures.kept.hand r;
  lent = c.leave.ensures.kept.words ∙ c.connect.ensures.used.words;
}
