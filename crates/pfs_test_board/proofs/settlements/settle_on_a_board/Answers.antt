use Rattle.std.proofs.Common.{◌∙◌, arith}
use Rattle.pfs_admin.specs.OpeningState.{opening_flags}
use Rattle.pfs_matching.specs.ObjectRules.{opening_objects}
use Rattle.pfs_test_board.proofs.TestRoots.{known_by}
use Rattle.pfs_test_board.proofs.settlements.settle_on_a_board.Goals as goal

pub take_in-requires-clause-known : goal.take_in-requires-clause-known
take_in-requires-clause-known g c κs within =
    let third = c.split-three.ensures.root in
    (_, known_by _ _ (opening_flags g.P.Picked.setting opening_objects) c.split-two.new.self c.split-three.new.self 100 10 _ c.split-three.ensures.began c.come-3.ensures.led third.board third.switches third.tickets)

pub take_in-requires-2-clause-known : goal.take_in-requires-2-clause-known
take_in-requires-2-clause-known g c κs within =
    let second = c.split-two.ensures.root in
    let third = c.split-three.ensures.root in
    let newest = c.take_in.ensures.taken _ (known_by _ _ (opening_flags g.P.Picked.setting opening_objects) c.split-two.new.self c.split-three.new.self 100 10 _ c.split-three.ensures.began c.come-3.ensures.led third.board third.switches third.tickets) in
    (_, known_by _ _ (opening_flags g.P.Picked.setting opening_objects) c.split-one.new.self c.take_in.new.self 100 10 _ c.split-two.ensures.began c.come-2.ensures.led (newest.board ∙ third.board ∙ second.board) (newest.switches ∙ third.switches ∙ second.switches) (newest.tickets ∙ third.tickets ∙ second.tickets))

pub take_in-requires-3-clause-known : goal.take_in-requires-3-clause-known
take_in-requires-3-clause-known g c κs within =
    let first = c.split-one.ensures.root in
    let second = c.split-two.ensures.root in
    let third = c.split-three.ensures.root in
    let newest = c.take_in.ensures.taken _ (known_by _ _ (opening_flags g.P.Picked.setting opening_objects) c.split-two.new.self c.split-three.new.self 100 10 _ c.split-three.ensures.began c.come-3.ensures.led third.board third.switches third.tickets) in
    let next = c.take_in-2.ensures.taken _ (known_by _ _ (opening_flags g.P.Picked.setting opening_objects) c.split-one.new.self c.take_in.new.self 100 10 _ c.split-two.ensures.began c.come-2.ensures.led (newest.board ∙ third.board ∙ second.board) (newest.switches ∙ third.switches ∙ second.switches) (newest.tickets ∙ third.tickets ∙ second.tickets)) in
    (_, known_by _ _ (opening_flags g.P.Picked.setting opening_objects) c.begin-root.result c.take_in-2.new.self 100 10 _ c.split-one.ensures.began c.come.ensures.led (next.board ∙ newest.board ∙ third.board ∙ second.board ∙ first.board) (next.switches ∙ newest.switches ∙ third.switches ∙ second.switches ∙ first.switches) (next.tickets ∙ newest.tickets ∙ third.tickets ∙ second.tickets ∙ first.tickets))

pub settle-requires : goal.settle-requires
settle-requires g c =
    let first = c.split-one.ensures.root in
    let second = c.split-two.ensures.root in
    let third = c.split-three.ensures.root in
    let begun = c.begin-root.ensures.whole in
    let newest = c.take_in.ensures.taken _ (known_by _ _ (opening_flags g.P.Picked.setting opening_objects) c.split-two.new.self c.split-three.new.self 100 10 _ c.split-three.ensures.began c.come-3.ensures.led third.board third.switches third.tickets) in
    let next = c.take_in-2.ensures.taken _ (known_by _ _ (opening_flags g.P.Picked.setting opening_objects) c.split-one.new.self c.take_in.new.self 100 10 _ c.split-two.ensures.began c.come-2.ensures.led (newest.board ∙ third.board ∙ second.board) (newest.switches ∙ third.switches ∙ second.switches) (newest.tickets ∙ third.tickets ∙ second.tickets)) in
    let last = c.take_in-3.ensures.taken _ (known_by _ _ (opening_flags g.P.Picked.setting opening_objects) c.begin-root.result c.take_in-2.new.self 100 10 _ c.split-one.ensures.began c.come.ensures.led (next.board ∙ newest.board ∙ third.board ∙ second.board ∙ first.board) (next.switches ∙ newest.switches ∙ third.switches ∙ second.switches ∙ first.switches) (next.tickets ∙ newest.tickets ∙ third.tickets ∙ second.tickets ∙ first.tickets)) in
    record {
      whole = (
        omega (arith, begun.0, first.stake_is, second.stake_is, third.stake_is, newest.stake_is, next.stake_is, last.stake_is),
        omega (arith, begun.1, first.draws_are, second.draws_are, third.draws_are, newest.draws_are, next.draws_are, last.draws_are),
      );
    }
