use Rattle.std.proofs.Common.{ℕ, List, ◌≡◌, ◌+◌, ◌-◌, ◌∙◌, ◌++◌, [], ◌∷◌, ap, length, refl, subst, sym, arith}
use Rattle.pfs_admin.proofs.FoldSteps.{follows}
use Rattle.pfs_admin.specs.AdministrationStates.{State as Administration}
use Rattle.pfs_admin.specs.declared.changes.Change.TheVariants.{Setup}
use Rattle.pfs_admin.specs.declared.changes.SetupStatement.TheVariants.{Show}
use Rattle.pfs_board.specs.declared.view.Label.{Label}
use Rattle.pfs_exec.specs.Selections.{IsAnswer}
use Rattle.pfs_law_plain.specs.Spells.{label_of}
use Rattle.pfs_levels.specs.Calls.{Begins}
use Rattle.pfs_matching.specs.declared.actor_rows.ActorRow.{ActorRow}
use Rattle.pfs_matching.specs.declared.object_rows.ObjectRow.{ObjectRow}
use Rattle.pfs_session.specs.Inquiries.{Remarks, remark_entry}
use Rattle.pfs_session.specs.Settlements.{owed_by_state, settle_cost}
use Rattle.pfs_session.specs.Turns.{Does, Inquires}
use Rattle.pfs_session.specs.declared.remarks.Remark.TheVariants.{Rows}
use Rattle.pfs_setups.specs.HeldRows.{held_rows}
use Rattle.pfs_actor.proofs.PlainActions.{has_broken_off, has_shown, may_work}
use Rattle.pfs_actor.proofs.PlainSteps.{others_free, store_of, used_up}
use Rattle.pfs_actor.proofs.plain.PlainActorActor.show_held.Goals as goal

pub act-requires-clause-may : goal.act-requires-clause-may
act-requires-clause-may g c =
    let s = c.args.session.now.state in
    may_work g.N.Named.setting g.N.Named.change (length (owed_by_state s)) (length (owed_by_state s) + 1) (settle_cost (owed_by_state s) + 2) (settle_cost (owed_by_state s) + 3) c.enter.result (store_of c.args.self.now.rows) (store_of c.enter.new.self) c.args.self.now.admin (label_of s) c.args.session.now.journal
    (omega arith) (omega arith) c.args.self.now.idle c.args.self.now.lent c.requires.acts (λ start calls at. at.answers)
    (subst (λ (label : Label). Begins (store_of c.args.self.now.rows).reached (store_of c.enter.new.self).reached label c.enter.result) c.label.ensures c.enter.ensures.call) c.enter.ensures.number c.enter.ensures.kept

pub leave-requires-clause-alone : goal.leave-requires-clause-alone
leave-requires-clause-alone g c = λ r above. c.act.ensures.used.hand r ∙ others_free (c.enter.result - 1) (store_of c.args.self.now.rows) (store_of c.enter.new.self) c.args.self.now.idle c.enter.ensures.kept r above

pub leave-requires-in-Err-clause-alone : goal.leave-requires-in-Err-clause-alone
leave-requires-in-Err-clause-alone g c = λ r above. c.act.ensures.used.hand r ∙ others_free (c.enter.result - 1) (store_of c.args.self.now.rows) (store_of c.enter.new.self) c.args.self.now.idle c.enter.ensures.kept r above

pub append-requires : goal.append-requires
append-requires g c = record { room = omega (arith, c.act.ensures.used.room, c.requires.acts.affords.room) }

pub returns-in-Ok-clause-shown : goal.returns-in-Ok-clause-shown
returns-in-Ok-clause-shown g c =
    let admin = c.args.self.now.admin in
    let rows = c.in-Ok.answer in
    let table = c.args.query.now.table in
    let actors = c.actors.ensures ∙ ap (λ (z : Administration). z.actors) c.act.ensures.admin in
    let objects = c.objects.ensures ∙ ap (λ (z : Administration). z.objects) c.act.ensures.admin in
    let answered : IsAnswer c.args.query.now (held_rows table admin.actors admin.objects) rows =
    subst (λ (z : List ObjectRow). IsAnswer c.args.query.now (held_rows table admin.actors z) rows) objects (subst (λ (z : List ActorRow). IsAnswer c.args.query.now (held_rows table z c.objects.result.now) rows) actors c.in-Ok.ensures.answer) in
    let many : length c.as_slice.result.now ≡ length rows = ap length c.as_slice.ensures in
    has_shown g.N.Named.setting g.N.Named.change c.args.query.now rows admin c.act.new.admin c.enter.result c.args.session.now c.act.new.self c.append.new.self (store_of c.args.self.now.rows) (store_of c.enter.new.self) (store_of c.act.new.rows) (store_of c.leave.new.self) answered
    (follows c.args.session.now.state.number (Setup Show) admin c.act.new.admin c.act.ensures.admin) c.requires.named (λ start calls at. at.answers)
    (subst (λ (label : Label). Begins (store_of c.args.self.now.rows).reached (store_of c.enter.new.self).reached label c.enter.result) c.label.ensures c.enter.ensures.call) c.act.ensures.played
    (subst (λ (n : ℕ). Does c.act.new.self.state (Inquires (Remarks (Rows n))) [] (remark_entry (Rows n) ∷ []) c.append.new.self.state) many c.append.ensures.does)
    (subst (λ (n : ℕ). c.append.new.self.journal.entries ≡ c.act.new.self.journal.entries ++ remark_entry (Rows n) ∷ []) many c.append.ensures.entries) c.leave.ensures.call

pub returns-in-Err-clause-broken : goal.returns-in-Err-clause-broken
returns-in-Err-clause-broken g c =
    let admin = c.args.self.now.admin in
    has_broken_off g.N.Named.setting g.N.Named.change admin c.act.new.admin c.enter.result c.args.session.now c.act.new.self (store_of c.args.self.now.rows) (store_of c.enter.new.self) (store_of c.act.new.rows) (store_of c.leave-in-Err.new.self)
    (follows c.args.session.now.state.number (Setup Show) admin c.act.new.admin c.act.ensures.admin) c.requires.named (λ start calls at. at.answers)
    (subst (λ (label : Label). Begins (store_of c.args.self.now.rows).reached (store_of c.enter.new.self).reached label c.enter.result) c.label.ensures c.enter.ensures.call) c.act.ensures.played c.leave-in-Err.ensures.call

pub returns-in-Ok-clause-used : goal.returns-in-Ok-clause-used
returns-in-Ok-clause-used g c =
    let s = c.args.session.now.state in
    let used = c.act.ensures.used in
    used_up g.N.Named.setting g.N.Named.change (length (owed_by_state s)) (length (owed_by_state s) + 1) (settle_cost (owed_by_state s) + 3) (settle_cost (owed_by_state s) + 3) (c.enter.result - 1) c.act.new.admin.words (store_of c.args.self.now.rows) (store_of c.enter.new.self) (store_of c.act.new.rows) (store_of c.leave.new.self) c.args.self.now.admin c.act.new.admin c.args.session.now.journal c.append.new.self.journal
    (omega arith) (omega arith) c.enter.ensures.kept
    (record { left = used.left; draws = used.draws; no_more = used.no_more; hand = used.hand; words = used.words; name = used.name; room = omega (arith, used.room, c.append.ensures.room) }) c.leave.ensures.kept

pub returns-in-Err-clause-used : goal.returns-in-Err-clause-used
returns-in-Err-clause-used g c =
    let s = c.args.session.now.state in
    used_up g.N.Named.setting g.N.Named.change (length (owed_by_state s)) (length (owed_by_state s) + 1) (settle_cost (owed_by_state s) + 2) (settle_cost (owed_by_state s) + 3) (c.enter.result - 1) c.act.new.admin.words (store_of c.args.self.now.rows) (store_of c.enter.new.self) (store_of c.act.new.rows) (store_of c.leave-in-Err.new.self) c.args.self.now.admin c.act.new.admin c.args.session.now.journal c.act.new.self.journal
    (omega arith) (omega arith) c.enter.ensures.kept c.act.ensures.used c.leave-in-Err.ensures.kept
