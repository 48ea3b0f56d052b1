use Rattle.std.proofs.Common.{ℕ, ◌≡◌, ◌<◌, ◌+◌, ◌∷◌, [], List, Option, drop, get_or, length, option_to_list, ap, sym, subst, arith}
use Rattle.std.specs.Vec.Iter.{into_iter_items}
use Rattle.pfs_journal.specs.declared.blocks.BlockReport.{BlockReport}
use Rattle.pfs_script.specs.declared.blocks.Block.{Block}
use Rattle.pfs_law_report.specs.declared.counts.LostEvents.{LostEvents}
use Rattle.pfs_session.specs.SessionStates.{Book}
use Rattle.pfs_board_run.specs.declared.board.Ran.{Ran}
use Rattle.pfs_board_phase.proofs.ResultLoops.{LeftToKeep, next_few, next_left, next_room, next_seat, none_kept, one_kept}
use Rattle.pfs_board_phase.proofs.results.keep_results.Goals as goal

-- what is left, with the first of it named
left : (blocks : List Block) (i : ℕ) (block : Block) (rans rest others : List Ran) (ran : Ran) (old now : List (Option Book)) (was lost : LostEvents) (told : List BlockReport) → i < length blocks → block ≡ get_or blocks i block → rest ≡ ran ∷ others
    → LeftToKeep blocks (drop i blocks) rans rest old now was lost told → LeftToKeep blocks (block ∷ drop (i + 1) blocks) rans (ran ∷ others) old now was lost told
left blocks i block rans rest others ran old now was lost told within is some l =
    subst (λ z. LeftToKeep blocks z rans (ran ∷ others) old now was lost told) (next_left blocks i block within is) (subst (λ z. LeftToKeep blocks (drop i blocks) rans z old now was lost told) some l)

pub loop-block-init : goal.loop-block-init
loop-block-init c = (
  subst (λ (told : List BlockReport). LeftToKeep c.args.blocks.now c.args.blocks.now c.args.rans.items (into_iter_items c.into_iter-rans.result) c.args.seats.now.items c.args.seats.now.items c.args.lost c.args.lost told) (sym c.in_ok-told.ensures.items)
      (subst (λ (rest : List Ran). LeftToKeep c.args.blocks.now c.args.blocks.now c.args.rans.items rest c.args.seats.now.items c.args.seats.now.items c.args.lost c.args.lost []) (sym c.into_iter-rans.ensures.rest)
      (none_kept c.args.blocks.now c.args.rans.items c.args.seats.now.items c.args.lost c.requires.each)),
  omega (arith, c.into_iter-rans.ensures.len, ap length c.into_iter-rans.ensures.rest, c.args.rans.ok),
  c.in_ok-told.ensures.capacity,
)

pub keep_result-report-requires-clause-seat : goal.keep_result-report-requires-clause-seat
keep_result-report-requires-clause-seat c = next_seat _ _ _ _ _ _ _ _ _ _ _ (left c.args.blocks.now c.loop-block.block-index c.block-item.result c.args.rans.items _ _ c.in-Some.ran _ _ _ _ _ c.loop-block-test.true c.block-item.is c.in-Some.ensures.items c.loop-block.invariant.0) c.requires.seats

pub keep_result-report-requires-clause-few : goal.keep_result-report-requires-clause-few
keep_result-report-requires-clause-few c = next_few _ _ _ _ _ _ _ _ _ _ _ (left c.args.blocks.now c.loop-block.block-index c.block-item.result c.args.rans.items _ _ c.in-Some.ran _ _ _ _ _ c.loop-block-test.true c.block-item.is c.in-Some.ensures.items c.loop-block.invariant.0) c.requires.few

pub push_reserved-requires : goal.push_reserved-requires
push_reserved-requires c =
    let room = next_room _ _ _ _ _ _ _ _ _ _ _ (left c.args.blocks.now c.loop-block.block-index c.block-item.result c.args.rans.items _ _ c.in-Some.ran _ _ _ _ _ c.loop-block-test.true c.block-item.is c.in-Some.ensures.items c.loop-block.invariant.0) in
    omega (arith, room, c.loop-block.invariant.2, c.loop-block.told.ok)

pub loop-block-preserved : goal.loop-block-preserved
loop-block-preserved c =
    let kept = c.keep_result-report.ensures in (
      subst (λ (told : List BlockReport). LeftToKeep c.args.blocks.now (drop (c.loop-block.block-index + 1) c.args.blocks.now) c.args.rans.items (into_iter_items c.next.new.self) c.args.seats.now.items c.keep_result-report.new.seats.items c.args.lost c.keep_result-report.new.lost told) (sym c.push_reserved.ensures.items)
          (one_kept _ _ _ _ _ _ _ _ _ _ _ (left c.args.blocks.now c.loop-block.block-index c.block-item.result c.args.rans.items _ _ c.in-Some.ran _ _ _ _ _ c.loop-block-test.true c.block-item.is c.in-Some.ensures.items c.loop-block.invariant.0)
          c.keep_result-report.new.seats.items c.keep_result-report.new.lost c.keep_result-report.result c.requires.wide c.requires.seats c.requires.apart kept.told kept.counted kept.kept),
      omega (arith, c.loop-block.invariant.1, c.next.ensures.len, ap length c.in-Some.ensures.items, ap (λ o. length (option_to_list o)) c.in-Some.is),
      omega (arith, c.loop-block.invariant.2, c.push_reserved.ensures.capacity),
    )
