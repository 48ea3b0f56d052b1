use Rattle.std.proofs.Common.{◌≡◌, ap, ◌∙◌, arith}
use Rattle.pfs_session.specs.SessionStates.{State}
use Rattle.pfs_session.specs.Settlements.{owed_by_state}
use Rattle.pfs_session.proofs.HeldAmounts.{settle_few}
use Rattle.pfs_test_board.proofs.TestSteps.{acted_on, begun_on, goes_on, label_is, may_act, owes_nothing, then_on}
use Rattle.pfs_test_board.proofs.sessions.record.Goals as goal

pub connect-requires-clause-named : goal.connect-requires-clause-named
connect-requires-clause-named g c =
    ap g.A.Actor.change (label_is c.args.session.state 1 0 (ap (λ (s : State). s.number) c.requires.state) (ap (λ (s : State). s.actions) c.requires.state)) ∙ c.requires.connects

pub connect-requires-clause-may : goal.connect-requires-clause-may
connect-requires-clause-may g c = record {
  first = ap (λ (s : State). s.actions) c.requires.state;
  unplaced = ap (λ (s : State). s.place) c.requires.state;
  closed = ap (λ (s : State). s.opened.events) c.requires.state;
  user_named = omega (arith, c.requires.names);
  host_named = omega (arith, c.requires.names);
}

pub connect-requires-clause-acts : goal.connect-requires-clause-acts
connect-requires-clause-acts g c = may_act _ _ _ _ c.requires.begun (omega (arith, c.requires.enough.0)) (omega (arith, c.requires.room))

pub record_wait-requires-clause-closed : goal.record_wait-requires-clause-closed
record_wait-requires-clause-closed g c = ap (λ (s : State). s.opened) c.connect.ensures.rest ∙ ap (λ (s : State). s.opened) c.requires.state

pub record_wait-requires-clause-early : goal.record_wait-requires-clause-early
record_wait-requires-clause-early g c = omega (arith, ap (λ (s : State). s.drawn) c.connect.ensures.rest, ap (λ (s : State). s.drawn) c.requires.state)

pub truncate-requires-clause-named : goal.truncate-requires-clause-named
truncate-requires-clause-named g c =
    let number = ap (λ (s : State). s.number) c.record_wait.ensures.rest ∙ ap (λ (s : State). s.number) c.connect.ensures.rest ∙ ap (λ (s : State). s.number) c.requires.state in
    let made = ap (λ (s : State). s.actions) c.record_wait.ensures.rest ∙ ap (λ (s : State). s.actions) c.connect.ensures.rest in
    ap g.A.Actor.change (label_is c.record_wait.new.session.state 1 1 number made) ∙ c.requires.truncates

pub truncate-requires-clause-early : goal.truncate-requires-clause-early
truncate-requires-clause-early g c = omega (arith, ap (λ (s : State). s.actions) c.record_wait.ensures.rest, ap (λ (s : State). s.actions) c.connect.ensures.rest)

pub truncate-requires-clause-acts : goal.truncate-requires-clause-acts
truncate-requires-clause-acts g c =
    let led = begun_on _ _ c.requires.begun (then_on _ _ _ (acted_on _ _ _ _ _ _ _ c.connect.ensures.acted) (then_on _ _ _ (goes_on _ _ _ c.load-connected.ensures.call) (then_on _ _ _ c.record_wait.ensures.led (goes_on _ _ _ c.read-counted.ensures.call)))) in
    let few = owes_nothing c.connect.new.session.state (ap (λ (s : State). s.held) c.connect.ensures.rest ∙ ap (λ (s : State). s.held) c.requires.state) in
    may_act _ _ _ _ led
    (omega (arith, c.requires.enough.0, c.connect.ensures.used.left, c.load-connected.ensures.kept.left, c.record_wait.ensures.left, c.read-counted.ensures.kept.left, c.record_wait.ensures.owed, few))
    (omega (arith, c.requires.room, c.connect.ensures.used.room, c.record_wait.ensures.room, settle_few (owed_by_state c.record_wait.new.session.state), c.record_wait.ensures.owed, few))

pub quit-requires-clause-named : goal.quit-requires-clause-named
quit-requires-clause-named g c =
    let number = ap (λ (s : State). s.number) c.truncate.ensures.rest ∙ ap (λ (s : State). s.number) c.record_wait.ensures.rest ∙ ap (λ (s : State). s.number) c.connect.ensures.rest ∙ ap (λ (s : State). s.number) c.requires.state in
    let made : c.truncate.new.session.state.actions ≡ 2 = omega (arith, ap (λ (s : State). s.actions) c.truncate.ensures.rest, ap (λ (s : State). s.actions) c.record_wait.ensures.rest, ap (λ (s : State). s.actions) c.connect.ensures.rest) in
    ap g.A.Actor.change (label_is c.truncate.new.session.state 1 2 number made) ∙ c.requires.quits

pub quit-requires-clause-closed : goal.quit-requires-clause-closed
quit-requires-clause-closed g c = ap (λ (s : State). s.opened.events) c.truncate.ensures.rest ∙ c.record_wait.ensures.closed

pub quit-requires-clause-early : goal.quit-requires-clause-early
quit-requires-clause-early g c = omega (arith, ap (λ (s : State). s.actions) c.truncate.ensures.rest, ap (λ (s : State). s.actions) c.record_wait.ensures.rest, ap (λ (s : State). s.actions) c.connect.ensures.rest)

pub quit-requires-clause-acts : goal.quit-requires-clause-acts
quit-requires-clause-acts g c =
    let led = begun_on _ _ c.requires.begun (then_on _ _ _ (acted_on _ _ _ _ _ _ _ c.connect.ensures.acted) (then_on _ _ _ (goes_on _ _ _ c.load-connected.ensures.call) (then_on _ _ _ c.record_wait.ensures.led (then_on _ _ _ (goes_on _ _ _ c.read-counted.ensures.call)
    (then_on _ _ _ (acted_on _ _ _ _ _ _ _ c.truncate.ensures.acted) (goes_on _ _ _ c.read-emptied.ensures.call)))))) in
    let few = owes_nothing c.connect.new.session.state (ap (λ (s : State). s.held) c.connect.ensures.rest ∙ ap (λ (s : State). s.held) c.requires.state) in
    let none = owes_nothing c.truncate.new.session.state (ap (λ (s : State). s.held) c.truncate.ensures.rest) in
    may_act _ _ _ _ led
    (omega (arith, c.requires.enough.0, c.connect.ensures.used.left, c.load-connected.ensures.kept.left, c.record_wait.ensures.left, c.read-counted.ensures.kept.left, c.record_wait.ensures.owed, few, c.truncate.ensures.used.left, c.read-emptied.ensures.kept.left, none))
    (omega (arith, c.requires.room, c.connect.ensures.used.room, c.record_wait.ensures.room, settle_few (owed_by_state c.record_wait.new.session.state), c.record_wait.ensures.owed, few, c.truncate.ensures.used.room, settle_few (owed_by_state c.truncate.new.session.state), none))

pub returns : goal.returns
returns g c = record {
  led =
      then_on _ _ _ (acted_on _ _ _ _ _ _ _ c.connect.ensures.acted) (then_on _ _ _ (goes_on _ _ _ c.load-connected.ensures.call) (then_on _ _ _ c.record_wait.ensures.led (then_on _ _ _ (goes_on _ _ _ c.read-counted.ensures.call)
      (then_on _ _ _ (acted_on _ _ _ _ _ _ _ c.truncate.ensures.acted) (then_on _ _ _ (goes_on _ _ _ c.read-emptied.ensures.call) (then_on _ _ _ (acted_on _ _ _ _ _ _ _ c.quit.ensures.acted) (then_on _ _ _ (goes_on _ _ _ c.load-gone.ensures.call)
      (then_on _ _ _ (goes_on _ _ _ c.read-thread.ensures.call) (goes_on _ _ _ c.pause.ensures.played.did.goes)))))))));
}
