use Rattle.std.proofs.Common.{◌-◌, [], ◌∷◌, ◌++◌, None, List, Option, length, take, slice_set, ap, sym, ◌∙◌, subst}
use Rattle.pfs_script.specs.declared.blocks.Block.{Block}
use Rattle.pfs_seats.specs.Seats.{GoesOn, depth_of, seat_of}
use Rattle.pfs_session.specs.SessionStates.{Book}
use Rattle.pfs_board_phase.specs.TakenSeats.{AreTaken, emptied}
use Rattle.pfs_board_phase.proofs.TakenSeats.{emptied_long, emptied_more, first_more, taken_more}
use Rattle.pfs_board_phase.proofs.sessions.take_sessions.Goals as goal

pub take_seat-requires-clause-wide : goal.take_seat-requires-clause-wide
take_seat-requires-clause-wide c = ap length c.loop-block.invariant.1 ∙ (emptied_long c.args.seats.now.items (take c.loop-block.block-index c.args.blocks.now) ∙ c.requires.wide)

pub loop-block-preserved : goal.loop-block-preserved
loop-block-preserved c =
    let seats = c.args.seats.now.items in
    let phases = c.args.phases.now in
    let stack = c.args.setting.now.limits.statement_stack in
    let block = c.block-item.result in
    let front = take c.loop-block.block-index c.args.blocks.now in
    let now = c.loop-block.seats.items in
    let inv = c.loop-block.invariant in
    let first = first_more c.args.blocks.now c.loop-block.block-index block c.loop-block-test.true c.block-item.is in
    let goes : GoesOn (seat_of (emptied seats front) block.session) block.session stack (depth_of phases block.session) c.in_ok-session.session =
    subst (λ (z : List (Option Book)). GoesOn (seat_of z block.session) block.session stack (depth_of phases block.session) c.in_ok-session.session) inv.1 c.in_ok-session.ensures.session in (
      subst (λ (z : List Block). AreTaken stack phases seats z c.push.new.self.items) (sym first)
          (subst (λ (z : List Book). AreTaken stack phases seats (front ++ block ∷ []) z) (sym c.in_ok-push.ensures.items) (taken_more stack phases seats front c.loop-block.sessions.items block c.in_ok-session.session inv.0 goes)),
      c.in_ok-session.ensures.seats ∙ (ap (λ (z : List (Option Book)). slice_set z (block.session - 1) None) inv.1 ∙ (sym (emptied_more seats front block) ∙ ap (emptied seats) (sym first))),
    )
