use Rattle.std.proofs.Common.{◌∙◌, ◌≡◌, List, ℕ, ap, sym, subst, arith}
use Rattle.std.specs.Prelude.{OnOk}
use Rattle.pfs_exec.specs.Requests.{request_of}
use Rattle.pfs_play.specs.Errand.{Errand}
use Rattle.pfs_runs.specs.ScriptLines.{changes_on, sql_changes}
use Rattle.pfs_play.specs.Errands.{LabelsName, errand_on, sql_errand}
use Rattle.pfs_play.specs.Needs.{Advanced, Ready, need_of}
use Rattle.pfs_play.proofs.NeedSteps.{event_advanced, no_action}
use Rattle.pfs_play.proofs.lines.play_line.Goals as goal

pub play_request-requires-clause-ready : goal.play_request-requires-clause-ready
play_request-requires-clause-ready g c =
    let same : sql_errand c.in-Ok.what ≡ errand_on c.args.line.now =
    ap sql_errand c.in-Ok.ensures ∙ (ap (λ (t : List ℕ). sql_errand (request_of t)) c.as_bytes.ensures ∙ sym (ap errand_on c.in-Sql.is)) in
    subst (λ (errand : Errand). Ready (need_of errand) c.args.session.now (g.A.Readable.seen c.args.actor.now)) (sym same) c.requires.ready

pub play_request-requires-clause-named : goal.play_request-requires-clause-named
play_request-requires-clause-named g c =
    let same : sql_changes c.in-Ok.what ≡ changes_on c.args.line.now =
    ap sql_changes c.in-Ok.ensures ∙ (ap (λ (t : List ℕ). sql_changes (request_of t)) c.as_bytes.ensures ∙ sym (ap changes_on c.in-Sql.is)) in
    subst (LabelsName g.A.Actor.change c.args.session.now.state.number c.args.session.now.state.actions) (sym same) c.requires.named

pub returns-in-Ok-clause-advanced : goal.returns-in-Ok-clause-advanced
returns-in-Ok-clause-advanced g c =
    let same : sql_errand c.in-Ok.what ≡ errand_on c.args.line.now =
    ap sql_errand c.in-Ok.ensures ∙ (ap (λ (t : List ℕ). sql_errand (request_of t)) c.as_bytes.ensures ∙ sym (ap errand_on c.in-Sql.is)) in
    subst (λ (errand : Errand). OnOk c.play_request.result (Advanced (need_of errand) c.args.session.now c.play_request.new.session (g.A.Readable.seen c.args.actor.now) (g.A.Readable.seen c.play_request.new.actor))) same c.play_request.ensures.advanced

pub play_event-requires-clause-affords : goal.play_event-requires-clause-affords
play_event-requires-clause-affords g c = record {
  left = omega (arith, c.requires.ready.affords.left);
  draws = c.requires.ready.affords.draws;
  room = c.requires.ready.affords.room;
}

pub returns-in_default-clause-advanced : goal.returns-in_default-clause-advanced
returns-in_default-clause-advanced g c =
    event_advanced c.args.line.now c.args.session.now c.play_event.new.session (g.A.Readable.seen c.args.actor.now) (g.A.Readable.seen c.play_event.new.rows) (no_action c.args.line.now (λ text same. c.in_default.not-Sql text same))
    c.play_event.ensures.drawn c.play_event.ensures.rest c.play_event.ensures.depth c.play_event.ensures.wide c.play_event.ensures.used

pub play_event-requires-clause-alone : goal.play_event-requires-clause-alone
play_event-requires-clause-alone g c = λ row some. g.met.A.Actor.idle c.args.actor.now row
