use Rattle.std.proofs.Common.{◌∷◌, [], ap, sym, ◌∙◌, subst}
use Rattle.std.specs.Prelude.{◌≡◌, ◌<◌, ◌+◌}
use Rattle.pfs_event.specs.Verdicts.{is_let_through}
use Rattle.pfs_session.specs.EventAnswers.{SaysStart}
use Rattle.pfs_session.specs.CallEnds.{HasStarted}
use Rattle.pfs_rings.specs.RingPlaces.{depths}
use Rattle.pfs_session.specs.EventPuts.{depth_of}
use Rattle.pfs_session.specs.SessionStates.{Book, one_if}
use Rattle.pfs_session.specs.Turns.{Played, StartsEvent}
use Rattle.pfs_session.proofs.EventAnswers.{start_says}
use Rattle.pfs_session.proofs.CallEnds.{has_started, start_draws, start_leaves}
use Rattle.pfs_session.proofs.OfferedPlaces.{start_deep}
use Rattle.pfs_session.proofs.EventSteps.{start_played}
use Rattle.pfs_session.proofs.session.Session.start.Goals as goal

pub begin-number-requires-clause-deep : goal.begin-number-requires-clause-deep
begin-number-requires-clause-deep g c =
    start_deep _ _ _ c.args.what.now c.load-seen.result c.judge-verdict.result c.self.inside.statements c.self.inside.waits c.is_placed-placed.result c.opened-event.result
    c.self.invariant.statements_are c.self.invariant.waits_are c.self.invariant.stack_few c.judge-verdict.ensures c.is_placed-placed.ensures c.opened-event.ensures.placed_is
    c.opened-event.ensures.kind

pub place-current-requires-clause-deep : goal.place-current-requires-clause-deep
place-current-requires-clause-deep g c = λ q.
    subst (λ z. z < depths c.opened-event.result.kind)
    (sym (c.depth-depth.ensures ∙ (ap (λ (b : Book). depth_of c.args.what.now.kind b.state.opened.events) (sym c.self.view_is) ∙ ap (λ z. depth_of z c.self.inside.nest.events) (sym c.opened-event.ensures.kind))))
    (start_deep _ _ _ c.args.what.now c.load-seen.result c.judge-verdict.result c.self.inside.statements c.self.inside.waits c.is_placed-placed.result c.opened-event.result
    c.self.invariant.statements_are c.self.invariant.waits_are c.self.invariant.stack_few c.judge-verdict.ensures c.is_placed-placed.ensures c.opened-event.ensures.placed_is
    c.opened-event.ensures.kind q)

pub returns-clause-played : goal.returns-clause-played
returns-clause-played g c =
    let P : Book → Type 0 = λ b. Played (StartsEvent c.args.what.now ∷ []) b c.place-current.new.self (g.R.Readable.seen c.args.rows.now).reached (g.R.Readable.seen c.place-current.new.rows).reached in
    subst P c.self.view_is
    (start_played _ c.begin-number.new.self c.place-current.new.self c.start_entry.result c.args.what.now c.load-seen.result c.judge-verdict.result c.is_timed-timed.result
    c.is_digested-digested.result c.is_placed-placed.result c.opened-event.result c.self.inside.statements c.self.inside.waits c.depth-depth.result c.place-current.result _ _ _
    c.load-seen.ensures.loaded c.self.invariant.statements_are c.self.invariant.waits_are c.judge-verdict.ensures c.is_timed-timed.ensures c.is_digested-digested.ensures
    c.is_placed-placed.ensures c.opened-event.ensures c.begin-number.ensures.state c.start_entry.ensures
    (ap (λ j. j.entries) (c.begin-number.ensures.journal ∙ c.push.ensures)) c.load-seen.ensures.goes (c.depth-depth.ensures ∙ ap (λ (b : Book). depth_of c.args.what.now.kind b.state.opened.events) (sym c.self.view_is)) c.place-current.ensures.put c.place-current.ensures.state)

pub returns-clause-answer : goal.returns-clause-answer
returns-clause-answer g c =
    let P : Book → Type 0 = λ b. SaysStart (record { event = c.begin-number.result; verdict = c.judge-verdict.result; seen = c.load-seen.result; current = c.place-current.result }) b.journal.entries c.place-current.new.self.journal.entries in
    subst P c.self.view_is
    (start_says c.load-seen.result c.judge-verdict.result _ c.start_entry.result c.opened-event.result c.begin-number.result c.place-current.result _ c.begin-number.new.self.journal.entries _
    c.begin-number.ensures.answer c.opened-event.ensures.verdict_is c.opened-event.ensures.number c.start_entry.ensures
    (ap (λ j. j.entries) (c.begin-number.ensures.journal ∙ c.push.ensures)) c.place-current.ensures.put.did.entries_are)

pub returns-clause-opened : goal.returns-clause-opened
returns-clause-opened g c =
    let P : Book → Type 0 = λ b. HasStarted c.args.what.now.kind b.state.opened c.place-current.new.self.state.opened in
    subst P c.self.view_is
    (has_started _ c.place-current.new.self.state c.opened-event.result c.args.what.now.kind (c.place-current.ensures.state ∙ c.begin-number.ensures.state) c.opened-event.ensures.kind)

pub returns-clause-drawn : goal.returns-clause-drawn
returns-clause-drawn g c =
    let P : Book → Type 0 = λ b. c.place-current.new.self.state.drawn ≡ b.state.drawn + one_if (is_let_through c.judge-verdict.result) in
    subst P c.self.view_is
    (start_draws _ c.begin-number.new.self.state c.place-current.new.self.state c.opened-event.result c.judge-verdict.result c.begin-number.ensures.state c.place-current.ensures.state
    c.opened-event.ensures.verdict_is)

pub returns-clause-rest : goal.returns-clause-rest
returns-clause-rest g c =
    let P : Book → Type 0 = λ b. c.place-current.new.self.state ≡ record b.state { drawn = c.place-current.new.self.state.drawn; opened = c.place-current.new.self.state.opened } in
    subst P c.self.view_is (start_leaves _ c.place-current.new.self.state c.opened-event.result (c.place-current.ensures.state ∙ c.begin-number.ensures.state))
