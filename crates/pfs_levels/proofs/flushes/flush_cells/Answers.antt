use Rattle.std.proofs.Common.{◌≡◌, ◌+◌, List, [], ◌∷◌, ◌++◌, length, map, take, arith}
use Rattle.pfs_levels.specs.Flushes.{ask_of}
use Rattle.pfs_levels.specs.Moves.{Ask, ask, targets_of, cost}
use Rattle.pfs_levels.proofs.FlushSteps.{cells_more, cells_fit, enough, moved_more, stays_more, stays_as}
use Rattle.pfs_levels.proofs.flushes.flush_cells.Goals as goal

pub move_up-requires-clause-spare : goal.move_up-requires-clause-spare
move_up-requires-clause-spare g c =
    let f = ask_of c.args.source in
    let cells = c.args.cells.now in
    let i = c.loop-cell.cell-index in
    let to = targets_of c.targets-to.result in
    omega (
      arith,
      enough (map f (take i cells)) (ask c.row_from-from.result to ∷ []) (map f (take (i + 1) cells)) (map f cells) (g.H.Readable.seen c.args.rows.now).left (g.H.Readable.seen c.loop-cell.rows).left
          (cells_more f cells i c.row_from-from.result to c.loop-cell-test.true c.row_from-from.ensures c.targets-to.ensures) (cells_fit f cells (i + 1)) c.requires.spare c.loop-cell.invariant.stays.left,
    )

pub move_up-requires-clause-room : goal.move_up-requires-clause-room
move_up-requires-clause-room g c =
    let f = ask_of c.args.source in
    let cells = c.args.cells.now in
    let i = c.loop-cell.cell-index in
    let to = targets_of c.targets-to.result in
    omega (
      arith,
      enough (map f (take i cells)) (ask c.row_from-from.result to ∷ []) (map f (take (i + 1) cells)) (map f cells) c.args.log.now.room c.loop-cell.log.room
          (cells_more f cells i c.row_from-from.result to c.loop-cell-test.true c.row_from-from.ensures c.targets-to.ensures) (cells_fit f cells (i + 1)) c.requires.room c.loop-cell.invariant.stays.room,
    )

pub loop-cell-preserved : goal.loop-cell-preserved
loop-cell-preserved g c =
    let f = ask_of c.args.source in
    let cells = c.args.cells.now in
    let i = c.loop-cell.cell-index in
    let to = targets_of c.targets-to.result in
    let more : List Ask = ask c.row_from-from.result to ∷ [] in
    let e : map f (take (i + 1) cells) ≡ map f (take i cells) ++ more = cells_more f cells i c.row_from-from.result to c.loop-cell-test.true c.row_from-from.ensures c.targets-to.ensures in
    let one : 1 + length to ≡ cost more = omega arith in
    record {
      moved = moved_more (map f (take i cells)) more (map f (take (i + 1) cells)) _ _ _ _ _ _ e c.loop-cell.invariant.moved c.move_up.ensures.moved;
      stays = stays_more (map f (take i cells)) more (map f (take (i + 1) cells)) _ _ _ _ _ _ e c.loop-cell.invariant.stays (stays_as _ _ _ _ _ _ one c.move_up.ensures.stays);
    }
