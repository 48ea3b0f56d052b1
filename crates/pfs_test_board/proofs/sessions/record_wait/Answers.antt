use Rattle.std.proofs.Common.{ap, ◌∙◌}
use Rattle.pfs_session.specs.Ends.{outer_events}
use Rattle.pfs_session.specs.SessionStates.{State}
use Rattle.pfs_event.specs.Nests.{OpenEvents}
use Rattle.pfs_test_board.proofs.TestSteps.{goes_on, then_on}
use Rattle.pfs_test_board.proofs.sessions.record_wait.Goals as goal

pub returns-clause-led : goal.returns-clause-led
returns-clause-led g c = then_on _ _ _ (goes_on _ _ _ c.start.ensures.played.did.goes) (goes_on _ _ _ c.end.ensures.played.did.goes)

pub returns-clause-closed : goal.returns-clause-closed
returns-clause-closed g c =
    ap (λ (s : State). s.opened.events) c.end.ensures.rest ∙ ap (λ (s : State). outer_events s.opened.events) c.spend.ensures.state
    ∙ c.start.ensures.opened.around ∙ ap (λ (o : OpenEvents). o.events) c.requires.closed
