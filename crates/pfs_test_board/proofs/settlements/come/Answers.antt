use Rattle.std.proofs.Common.{ap, arith}
use Rattle.pfs_session.specs.SessionStates.{State}
use Rattle.pfs_test_board.proofs.TestSteps.{acted_on, may_act}
use Rattle.pfs_test_board.proofs.settlements.come.Goals as goal

pub connect-requires-clause-may : goal.connect-requires-clause-may
connect-requires-clause-may g c =
    let is = c.requires.state.1 in
    record {
      first = ap (λ (s : State). s.actions) is;
      unplaced = ap (λ (s : State). s.place) is;
      closed = ap (λ (s : State). s.opened.events) is;
      user_named = c.requires.names.0;
      host_named = c.requires.names.1;
    }

pub connect-requires-clause-acts : goal.connect-requires-clause-acts
connect-requires-clause-acts g c = may_act _ _ _ _ c.requires.begun (omega (arith, c.requires.left)) (omega (arith, c.requires.room))

pub returns : goal.returns
returns g c = record { led = acted_on _ _ _ _ _ _ _ c.connect.ensures.acted }
