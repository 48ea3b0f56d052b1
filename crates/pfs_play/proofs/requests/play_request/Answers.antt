use Rattle.std.proofs.Common.{ap, refl, sym, subst, arith}
use Rattle.std.specs.Prelude.{OnOk}
use Rattle.std.proofs.lemmas.Result.{on_ok_weaker}
use Rattle.pfs_admin.specs.declared.changes.SetupStatement.TheVariants as statements
use Rattle.pfs_play.specs.Errand.{Errand}
use Rattle.pfs_play.specs.Errand as ask
use Rattle.pfs_exec.specs.declared.requests.Request.{Request}
use Rattle.pfs_runs.specs.ScriptLines.{sql_changes}
use Rattle.pfs_play.specs.Errands.{HasRun, LabelsName, sql_errand}
use Rattle.pfs_play.specs.Needs.{Advanced, Ready, need_of}
use Rattle.pfs_play.proofs.ErrandParts.{acted_ran, refuse_ran}
use Rattle.pfs_play.proofs.NeedSteps.{acted_advanced, on_ok_two, ready_acts, ready_rare, still_advanced}
use Rattle.pfs_play.proofs.requests.play_request.Goals as goal

pub returns-in-Refused-clause-run : goal.returns-in-Refused-clause-run
returns-in-Refused-clause-run g c =
    subst (λ (errand : Errand). HasRun c.args.setting.now g.A.Actor.setting g.A.Actor.change errand c.args.session.now c.append.new.self c.args.answers.now.items c.args.answers.now.items (g.A.Readable.seen c.args.actor.now).reached (g.A.Readable.seen c.args.actor.now).reached) (sym (ap sql_errand c.in-Refused.is))
    (acted_ran c.args.setting.now g.A.Actor.setting g.A.Actor.change (ask.Refuse c.in-Refused.error) c.args.session.now c.append.new.self c.args.answers.now.items (g.A.Readable.seen c.args.actor.now).reached (g.A.Readable.seen c.args.actor.now).reached refl (λ admin. refl)
    (refuse_ran g.A.Actor.setting g.A.Actor.change c.in-Refused.error c.args.session.now c.append.new.self (g.A.Readable.seen c.args.actor.now).reached c.append.ensures.does c.append.ensures.entries))

pub returns-in-Truncate-clause-run : goal.returns-in-Truncate-clause-run
returns-in-Truncate-clause-run g c =
    subst (λ (errand : Errand). HasRun c.args.setting.now g.A.Actor.setting g.A.Actor.change errand c.args.session.now c.truncate_table.new.session c.args.answers.now.items c.args.answers.now.items (g.A.Readable.seen c.args.actor.now).reached (g.A.Readable.seen c.truncate_table.new.actor).reached) (sym (ap sql_errand c.in-Truncate.is))
    (acted_ran c.args.setting.now g.A.Actor.setting g.A.Actor.change (ask.Truncate c.in-Truncate.truncation) c.args.session.now c.truncate_table.new.session c.args.answers.now.items (g.A.Readable.seen c.args.actor.now).reached (g.A.Readable.seen c.truncate_table.new.actor).reached refl (λ admin. refl) c.truncate_table.ensures.run)

pub returns-in-Update-clause-run : goal.returns-in-Update-clause-run
returns-in-Update-clause-run g c =
    subst (λ (errand : Errand). HasRun c.args.setting.now g.A.Actor.setting g.A.Actor.change errand c.args.session.now c.change_table.new.session c.args.answers.now.items c.args.answers.now.items (g.A.Readable.seen c.args.actor.now).reached (g.A.Readable.seen c.change_table.new.actor).reached) (sym (ap sql_errand c.in-Update.is))
    (acted_ran c.args.setting.now g.A.Actor.setting g.A.Actor.change (ask.Change (statements.Update c.in-Update.update)) c.args.session.now c.change_table.new.session c.args.answers.now.items (g.A.Readable.seen c.args.actor.now).reached (g.A.Readable.seen c.change_table.new.actor).reached refl (λ admin. refl) c.change_table.ensures.run)

pub returns-in-Insert-clause-run : goal.returns-in-Insert-clause-run
returns-in-Insert-clause-run g c =
    subst (λ (errand : Errand). HasRun c.args.setting.now g.A.Actor.setting g.A.Actor.change errand c.args.session.now c.change_table-in-Insert.new.session c.args.answers.now.items c.args.answers.now.items (g.A.Readable.seen c.args.actor.now).reached (g.A.Readable.seen c.change_table-in-Insert.new.actor).reached) (sym (ap sql_errand c.in-Insert.is))
    (acted_ran c.args.setting.now g.A.Actor.setting g.A.Actor.change (ask.Change (statements.Insert c.in-Insert.insert)) c.args.session.now c.change_table-in-Insert.new.session c.args.answers.now.items (g.A.Readable.seen c.args.actor.now).reached (g.A.Readable.seen c.change_table-in-Insert.new.actor).reached refl (λ admin. refl) c.change_table-in-Insert.ensures.run)

pub returns-in-Delete-clause-run : goal.returns-in-Delete-clause-run
returns-in-Delete-clause-run g c =
    subst (λ (errand : Errand). HasRun c.args.setting.now g.A.Actor.setting g.A.Actor.change errand c.args.session.now c.change_table-in-Delete.new.session c.args.answers.now.items c.args.answers.now.items (g.A.Readable.seen c.args.actor.now).reached (g.A.Readable.seen c.change_table-in-Delete.new.actor).reached) (sym (ap sql_errand c.in-Delete.is))
    (acted_ran c.args.setting.now g.A.Actor.setting g.A.Actor.change (ask.Change (statements.Delete c.in-Delete.delete)) c.args.session.now c.change_table-in-Delete.new.session c.args.answers.now.items (g.A.Readable.seen c.args.actor.now).reached (g.A.Readable.seen c.change_table-in-Delete.new.actor).reached refl (λ admin. refl) c.change_table-in-Delete.ensures.run)

pub returns-in-Query-clause-run : goal.returns-in-Query-clause-run
returns-in-Query-clause-run g c =
    subst (λ (errand : Errand). OnOk c.query.result (HasRun c.args.setting.now g.A.Actor.setting g.A.Actor.change errand c.args.session.now c.query.new.session c.args.answers.now.items c.query.new.answers.items (g.A.Readable.seen c.args.actor.now).reached (g.A.Readable.seen c.query.new.rows).reached))
    (sym (ap sql_errand c.in-Query.is)) (on_ok_weaker c.query.result (λ run. run g.A.Actor.setting g.A.Actor.change) c.query.ensures.run)

pub returns-in-Show-clause-run : goal.returns-in-Show-clause-run
returns-in-Show-clause-run g c =
    subst (λ (errand : Errand). OnOk c.show_table.result (HasRun c.args.setting.now g.A.Actor.setting g.A.Actor.change errand c.args.session.now c.show_table.new.session c.args.answers.now.items c.show_table.new.answers.items (g.A.Readable.seen c.args.actor.now).reached (g.A.Readable.seen c.show_table.new.actor).reached))
    (sym (ap sql_errand c.in-Show.is)) (on_ok_weaker c.show_table.result (λ run. run c.args.setting.now) c.show_table.ensures.run)

pub truncate_table-requires-clause-named : goal.truncate_table-requires-clause-named
truncate_table-requires-clause-named g c = (subst (λ (request : Request). LabelsName g.A.Actor.change c.args.session.now.state.number c.args.session.now.state.actions (sql_changes request)) c.in-Truncate.is c.requires.named).0

pub change_table-requires-clause-named : goal.change_table-requires-clause-named
change_table-requires-clause-named g c = (subst (λ (request : Request). LabelsName g.A.Actor.change c.args.session.now.state.number c.args.session.now.state.actions (sql_changes request)) c.in-Update.is c.requires.named).0

pub change_table-requires-in-Insert-clause-named : goal.change_table-requires-in-Insert-clause-named
change_table-requires-in-Insert-clause-named g c = (subst (λ (request : Request). LabelsName g.A.Actor.change c.args.session.now.state.number c.args.session.now.state.actions (sql_changes request)) c.in-Insert.is c.requires.named).0

pub change_table-requires-in-Delete-clause-named : goal.change_table-requires-in-Delete-clause-named
change_table-requires-in-Delete-clause-named g c = (subst (λ (request : Request). LabelsName g.A.Actor.change c.args.session.now.state.number c.args.session.now.state.actions (sql_changes request)) c.in-Delete.is c.requires.named).0

pub show_table-requires-clause-named : goal.show_table-requires-clause-named
show_table-requires-clause-named g c = (subst (λ (request : Request). LabelsName g.A.Actor.change c.args.session.now.state.number c.args.session.now.state.actions (sql_changes request)) c.in-Show.is c.requires.named).0

pub truncate_table-requires-clause-rare : goal.truncate_table-requires-clause-rare
truncate_table-requires-clause-rare g c =
    let ready : Ready (need_of (ask.Truncate c.in-Truncate.truncation)) c.args.session.now (g.A.Readable.seen c.args.actor.now) = subst (λ (errand : Errand). Ready (need_of errand) c.args.session.now (g.A.Readable.seen c.args.actor.now)) (ap sql_errand c.in-Truncate.is) c.requires.ready in
    ready_rare (ask.Truncate c.in-Truncate.truncation) c.args.session.now (g.A.Readable.seen c.args.actor.now) refl ready

pub truncate_table-requires-clause-acts : goal.truncate_table-requires-clause-acts
truncate_table-requires-clause-acts g c =
    let ready : Ready (need_of (ask.Truncate c.in-Truncate.truncation)) c.args.session.now (g.A.Readable.seen c.args.actor.now) = subst (λ (errand : Errand). Ready (need_of errand) c.args.session.now (g.A.Readable.seen c.args.actor.now)) (ap sql_errand c.in-Truncate.is) c.requires.ready in
    ready_acts (ask.Truncate c.in-Truncate.truncation) 20194 20196 c.args.session.now (g.A.Readable.seen c.args.actor.now) refl (omega arith) (omega arith) ready

pub returns-in-Truncate-clause-advanced : goal.returns-in-Truncate-clause-advanced
returns-in-Truncate-clause-advanced g c =
    subst (λ (errand : Errand). Advanced (need_of errand) c.args.session.now c.truncate_table.new.session (g.A.Readable.seen c.args.actor.now) (g.A.Readable.seen c.truncate_table.new.actor)) (sym (ap sql_errand c.in-Truncate.is))
    (acted_advanced (ask.Truncate c.in-Truncate.truncation) 20194 20196 c.args.session.now c.truncate_table.new.session (g.A.Readable.seen c.args.actor.now) (g.A.Readable.seen c.truncate_table.new.actor) refl (omega arith) (omega arith) c.truncate_table.ensures.rest
    c.truncate_table.ensures.used)

pub change_table-requires-clause-rare : goal.change_table-requires-clause-rare
change_table-requires-clause-rare g c =
    let ready : Ready (need_of (ask.Change (statements.Update c.in-Update.update))) c.args.session.now (g.A.Readable.seen c.args.actor.now) = subst (λ (errand : Errand). Ready (need_of errand) c.args.session.now (g.A.Readable.seen c.args.actor.now)) (ap sql_errand c.in-Update.is) c.requires.ready in
    ready_rare (ask.Change (statements.Update c.in-Update.update)) c.args.session.now (g.A.Readable.seen c.args.actor.now) refl ready

pub change_table-requires-clause-acts : goal.change_table-requires-clause-acts
change_table-requires-clause-acts g c =
    let ready : Ready (need_of (ask.Change (statements.Update c.in-Update.update))) c.args.session.now (g.A.Readable.seen c.args.actor.now) = subst (λ (errand : Errand). Ready (need_of errand) c.args.session.now (g.A.Readable.seen c.args.actor.now)) (ap sql_errand c.in-Update.is) c.requires.ready in
    ready_acts (ask.Change (statements.Update c.in-Update.update)) 194 260 c.args.session.now (g.A.Readable.seen c.args.actor.now) refl (omega arith) (omega arith) ready

pub returns-in-Update-clause-advanced : goal.returns-in-Update-clause-advanced
returns-in-Update-clause-advanced g c =
    subst (λ (errand : Errand). Advanced (need_of errand) c.args.session.now c.change_table.new.session (g.A.Readable.seen c.args.actor.now) (g.A.Readable.seen c.change_table.new.actor)) (sym (ap sql_errand c.in-Update.is))
    (acted_advanced (ask.Change (statements.Update c.in-Update.update)) 194 260 c.args.session.now c.change_table.new.session (g.A.Readable.seen c.args.actor.now) (g.A.Readable.seen c.change_table.new.actor) refl (omega arith) (omega arith) c.change_table.ensures.rest
    c.change_table.ensures.used)

pub change_table-requires-in-Insert-clause-rare : goal.change_table-requires-in-Insert-clause-rare
change_table-requires-in-Insert-clause-rare g c =
    let ready : Ready (need_of (ask.Change (statements.Insert c.in-Insert.insert))) c.args.session.now (g.A.Readable.seen c.args.actor.now) = subst (λ (errand : Errand). Ready (need_of errand) c.args.session.now (g.A.Readable.seen c.args.actor.now)) (ap sql_errand c.in-Insert.is) c.requires.ready in
    ready_rare (ask.Change (statements.Insert c.in-Insert.insert)) c.args.session.now (g.A.Readable.seen c.args.actor.now) refl ready

pub change_table-requires-in-Insert-clause-acts : goal.change_table-requires-in-Insert-clause-acts
change_table-requires-in-Insert-clause-acts g c =
    let ready : Ready (need_of (ask.Change (statements.Insert c.in-Insert.insert))) c.args.session.now (g.A.Readable.seen c.args.actor.now) = subst (λ (errand : Errand). Ready (need_of errand) c.args.session.now (g.A.Readable.seen c.args.actor.now)) (ap sql_errand c.in-Insert.is) c.requires.ready in
    ready_acts (ask.Change (statements.Insert c.in-Insert.insert)) 194 260 c.args.session.now (g.A.Readable.seen c.args.actor.now) refl (omega arith) (omega arith) ready

pub returns-in-Insert-clause-advanced : goal.returns-in-Insert-clause-advanced
returns-in-Insert-clause-advanced g c =
    subst (λ (errand : Errand). Advanced (need_of errand) c.args.session.now c.change_table-in-Insert.new.session (g.A.Readable.seen c.args.actor.now) (g.A.Readable.seen c.change_table-in-Insert.new.actor)) (sym (ap sql_errand c.in-Insert.is))
    (acted_advanced (ask.Change (statements.Insert c.in-Insert.insert)) 194 260 c.args.session.now c.change_table-in-Insert.new.session (g.A.Readable.seen c.args.actor.now) (g.A.Readable.seen c.change_table-in-Insert.new.actor) refl (omega arith) (omega arith) c.change_table-in-Insert.ensures.rest
    c.change_table-in-Insert.ensures.used)

pub change_table-requires-in-Delete-clause-rare : goal.change_table-requires-in-Delete-clause-rare
change_table-requires-in-Delete-clause-rare g c =
    let ready : Ready (need_of (ask.Change (statements.Delete c.in-Delete.delete))) c.args.session.now (g.A.Readable.seen c.args.actor.now) = subst (λ (errand : Errand). Ready (need_of errand) c.args.session.now (g.A.Readable.seen c.args.actor.now)) (ap sql_errand c.in-Delete.is) c.requires.ready in
    ready_rare (ask.Change (statements.Delete c.in-Delete.delete)) c.args.session.now (g.A.Readable.seen c.args.actor.now) refl ready

pub change_table-requires-in-Delete-clause-acts : goal.change_table-requires-in-Delete-clause-acts
change_table-requires-in-Delete-clause-acts g c =
    let ready : Ready (need_of (ask.Change (statements.Delete c.in-Delete.delete))) c.args.session.now (g.A.Readable.seen c.args.actor.now) = subst (λ (errand : Errand). Ready (need_of errand) c.args.session.now (g.A.Readable.seen c.args.actor.now)) (ap sql_errand c.in-Delete.is) c.requires.ready in
    ready_acts (ask.Change (statements.Delete c.in-Delete.delete)) 194 260 c.args.session.now (g.A.Readable.seen c.args.actor.now) refl (omega arith) (omega arith) ready

pub returns-in-Delete-clause-advanced : goal.returns-in-Delete-clause-advanced
returns-in-Delete-clause-advanced g c =
    subst (λ (errand : Errand). Advanced (need_of errand) c.args.session.now c.change_table-in-Delete.new.session (g.A.Readable.seen c.args.actor.now) (g.A.Readable.seen c.change_table-in-Delete.new.actor)) (sym (ap sql_errand c.in-Delete.is))
    (acted_advanced (ask.Change (statements.Delete c.in-Delete.delete)) 194 260 c.args.session.now c.change_table-in-Delete.new.session (g.A.Readable.seen c.args.actor.now) (g.A.Readable.seen c.change_table-in-Delete.new.actor) refl (omega arith) (omega arith) c.change_table-in-Delete.ensures.rest
    c.change_table-in-Delete.ensures.used)

pub append-requires : goal.append-requires
append-requires g c =
    let ready : Ready (need_of (ask.Refuse c.in-Refused.error)) c.args.session.now (g.A.Readable.seen c.args.actor.now) = subst (λ (errand : Errand). Ready (need_of errand) c.args.session.now (g.A.Readable.seen c.args.actor.now)) (ap sql_errand c.in-Refused.is) c.requires.ready in
    record { room = omega (arith, ready.affords.room) }

pub returns-in-Refused-clause-advanced : goal.returns-in-Refused-clause-advanced
returns-in-Refused-clause-advanced g c =
    subst (λ (errand : Errand). Advanced (need_of errand) c.args.session.now c.append.new.self (g.A.Readable.seen c.args.actor.now) (g.A.Readable.seen c.args.actor.now)) (sym (ap sql_errand c.in-Refused.is))
    (still_advanced (ask.Refuse c.in-Refused.error) 1 c.args.session.now c.append.new.self (g.A.Readable.seen c.args.actor.now) (g.A.Readable.seen c.args.actor.now) refl (omega arith) c.requires.wide c.append.ensures.state
    (record { left = omega arith; draws = omega arith; no_more = omega arith; hand = λ r. refl; words = refl; name = refl; room = c.append.ensures.room }))

pub query-requires-clause-room : goal.query-requires-clause-room
query-requires-clause-room g c =
    let ready : Ready (need_of (ask.Query c.in-Query.select)) c.args.session.now (g.A.Readable.seen c.args.actor.now) = subst (λ (errand : Errand). Ready (need_of errand) c.args.session.now (g.A.Readable.seen c.args.actor.now)) (ap sql_errand c.in-Query.is) c.requires.ready in
    omega (arith, ready.affords.room)

pub returns-in-Query-clause-advanced : goal.returns-in-Query-clause-advanced
returns-in-Query-clause-advanced g c =
    subst (λ (errand : Errand). OnOk c.query.result (Advanced (need_of errand) c.args.session.now c.query.new.session (g.A.Readable.seen c.args.actor.now) (g.A.Readable.seen c.query.new.rows))) (sym (ap sql_errand c.in-Query.is))
    (on_ok_two c.query.result
    (λ state used. still_advanced (ask.Query c.in-Query.select) 14405 c.args.session.now c.query.new.session (g.A.Readable.seen c.args.actor.now) (g.A.Readable.seen c.query.new.rows) refl (omega arith) c.requires.wide state used)
    c.query.ensures.state c.query.ensures.used)

pub show_table-requires-clause-rare : goal.show_table-requires-clause-rare
show_table-requires-clause-rare g c =
    let ready : Ready (need_of (ask.Show c.in-Show.select)) c.args.session.now (g.A.Readable.seen c.args.actor.now) = subst (λ (errand : Errand). Ready (need_of errand) c.args.session.now (g.A.Readable.seen c.args.actor.now)) (ap sql_errand c.in-Show.is) c.requires.ready in
    ready_rare (ask.Show c.in-Show.select) c.args.session.now (g.A.Readable.seen c.args.actor.now) refl ready

pub show_table-requires-clause-acts : goal.show_table-requires-clause-acts
show_table-requires-clause-acts g c =
    let ready : Ready (need_of (ask.Show c.in-Show.select)) c.args.session.now (g.A.Readable.seen c.args.actor.now) = subst (λ (errand : Errand). Ready (need_of errand) c.args.session.now (g.A.Readable.seen c.args.actor.now)) (ap sql_errand c.in-Show.is) c.requires.ready in
    ready_acts (ask.Show c.in-Show.select) 194 260 c.args.session.now (g.A.Readable.seen c.args.actor.now) refl (omega arith) (omega arith) ready

pub returns-in-Show-clause-advanced : goal.returns-in-Show-clause-advanced
returns-in-Show-clause-advanced g c =
    subst (λ (errand : Errand). OnOk c.show_table.result (Advanced (need_of errand) c.args.session.now c.show_table.new.session (g.A.Readable.seen c.args.actor.now) (g.A.Readable.seen c.show_table.new.actor))) (sym (ap sql_errand c.in-Show.is))
    (on_ok_two c.show_table.result
    (λ rest used. acted_advanced (ask.Show c.in-Show.select) 194 260 c.args.session.now c.show_table.new.session (g.A.Readable.seen c.args.actor.now) (g.A.Readable.seen c.show_table.new.actor) refl (omega arith) (omega arith) rest used)
    c.show_table.ensures.rest c.show_table.ensures.used)

pub query-requires-clause-away : goal.query-requires-clause-away
query-requires-clause-away g c = λ row some. g.met.A.Actor.idle c.args.actor.now row
