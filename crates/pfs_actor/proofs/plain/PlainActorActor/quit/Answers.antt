use Rattle.std.proofs.Common.{ℕ, ◌+◌, ◌-◌, ◌∙◌, length, refl, subst, arith}
use Rattle.pfs_admin.proofs.FoldSteps.{follows}
use Rattle.pfs_admin.specs.declared.changes.Change.TheVariants.{Quit}
use Rattle.pfs_board.specs.declared.view.Label.{Label}
use Rattle.pfs_law_plain.specs.Spells.{label_of}
use Rattle.pfs_law_session.specs.Deeds.{Quitting}
use Rattle.pfs_levels.specs.Calls.{Begins}
use Rattle.pfs_session.specs.Settlements.{owed_by_state, settle_cost}
use Rattle.pfs_actor.proofs.PlainActions.{has_acted, may_work}
use Rattle.pfs_actor.proofs.PlainSteps.{others_free, store_of, used_up}
use Rattle.pfs_actor.proofs.plain.PlainActorActor.quit.Goals as goal

pub quit-requires-clause-may : goal.quit-requires-clause-may
quit-requires-clause-may g c =
    let s = c.args.session.now.state in
    may_work g.N.Named.setting g.N.Named.change (length (owed_by_state s) + 252) (length (owed_by_state s) + 253) (settle_cost (owed_by_state s) + 254) (settle_cost (owed_by_state s) + 254) c.enter.result (store_of c.args.self.now.rows) (store_of c.enter.new.self) c.args.self.now.admin (label_of s) c.args.session.now.journal
    (omega arith) (omega arith) c.args.self.now.idle c.args.self.now.lent c.requires.acts (λ start calls at. at.answers)
    (subst (λ (label : Label). Begins (store_of c.args.self.now.rows).reached (store_of c.enter.new.self).reached label c.enter.result) c.label.ensures c.enter.ensures.call) c.enter.ensures.number c.enter.ensures.kept

pub leave-requires-clause-alone : goal.leave-requires-clause-alone
leave-requires-clause-alone g c = λ r above. c.quit.ensures.used.hand r ∙ others_free (c.enter.result - 1) (store_of c.args.self.now.rows) (store_of c.enter.new.self) c.args.self.now.idle c.enter.ensures.kept r above

pub returns-clause-acted : goal.returns-clause-acted
returns-clause-acted g c =
    let admin = c.args.self.now.admin in
    has_acted g.N.Named.setting g.N.Named.change Quit (λ admin. Quitting admin) admin c.quit.new.admin c.enter.result (admin.actions + 1) c.args.session.now c.quit.new.self (store_of c.args.self.now.rows) (store_of c.enter.new.self) (store_of c.quit.new.rows) (store_of c.leave.new.self) refl
    (λ labels is. (is, c.requires.named)) (follows c.args.session.now.state.number Quit admin c.quit.new.admin c.quit.ensures.admin) c.requires.named (λ start calls at. at.answers)
    (subst (λ (label : Label). Begins (store_of c.args.self.now.rows).reached (store_of c.enter.new.self).reached label c.enter.result) c.label.ensures c.enter.ensures.call) c.quit.ensures.played c.leave.ensures.call

pub returns-clause-used : goal.returns-clause-used
returns-clause-used g c =
    let s = c.args.session.now.state in
    used_up g.N.Named.setting g.N.Named.change (length (owed_by_state s) + 252) (length (owed_by_state s) + 253) (settle_cost (owed_by_state s) + 254) (settle_cost (owed_by_state s) + 254) (c.enter.result - 1) c.quit.new.admin.words (store_of c.args.self.now.rows) (store_of c.enter.new.self) (store_of c.quit.new.rows) (store_of c.leave.new.self) c.args.self.now.admin c.quit.new.admin c.args.session.now.journal c.quit.new.self.journal
    (omega arith) (omega arith) c.enter.ensures.kept c.quit.ensures.used c.leave.ensures.kept

pub invariant_of-self : goal.invariant_of-self
invariant_of-self g c = record {
  idle = λ r. c.leave.ensures.kept.hand r;
  lent = c.leave.ensures.kept.words ∙ c.quit.ensures.used.words;
}
