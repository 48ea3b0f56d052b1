use Rattle.std.proofs.Common.{arith}
use Rattle.pfs_admin.specs.OpeningState.{opening_flags}
use Rattle.pfs_matching.specs.ObjectRules.{opening_objects}
use Rattle.pfs_test_board.proofs.TestRoots.{known_by}
use Rattle.pfs_test_board.proofs.sessions.record_on_a_board.Goals as goal

pub take_in-requires-clause-known : goal.take_in-requires-clause-known
take_in-requires-clause-known g c κs within =
    let root = c.split-actor.ensures.root in
    (_, known_by _ _ (opening_flags g.P.Picked.setting opening_objects) c.begin-root.result c.split-actor.new.self 20000 50 _ c.split-actor.ensures.began c.record-recorded.ensures.led root.board root.switches root.tickets)

pub settle-requires : goal.settle-requires
settle-requires g c =
    let begun = c.begin-root.ensures.whole in
    let root = c.split-actor.ensures.root in
    let known = known_by _ _ (opening_flags g.P.Picked.setting opening_objects) c.begin-root.result c.split-actor.new.self 20000 50 _ c.split-actor.ensures.began c.record-recorded.ensures.led root.board root.switches root.tickets in
    let taken = c.take_in.ensures.taken _ known in
    record { whole = (omega (arith, begun.0, root.stake_is, taken.stake_is), omega (arith, begun.1, root.draws_are, taken.draws_are)) }
