use Rattle.std.proofs.Common.{◌≡◌, ◌+◌, List, [], ◌∷◌, ◌++◌, map, take, refl}
use Rattle.pfs_levels.specs.Moves.{Ask, ask}
use Rattle.pfs_levels.proofs.FlushSteps.{cells_more, cells_fit, enough, moved_more, stays_more}
use Rattle.pfs_admin.proofs.LevelMoves.{clearing}
use Rattle.pfs_admin.proofs.summaries.clear_global.Goals as goal

pub clear-requires-clause-spare : goal.clear-requires-clause-spare
clear-requires-clause-spare g c =
    let cells = c.args.cells.now in
    let i = c.loop-cell.cell-index in
    enough (map clearing (take i cells)) (ask c.row_of.result [] ∷ []) (map clearing (take (i + 1) cells)) (map clearing cells) (g.H.Readable.seen c.args.rows.now).left (g.H.Readable.seen c.loop-cell.rows).left
    (cells_more clearing cells i c.row_of.result [] c.loop-cell-test.true c.row_of.ensures.number refl) (cells_fit clearing cells (i + 1)) c.requires.spare c.loop-cell.invariant.stays.left

pub clear-requires-clause-room : goal.clear-requires-clause-room
clear-requires-clause-room g c =
    let cells = c.args.cells.now in
    let i = c.loop-cell.cell-index in
    enough (map clearing (take i cells)) (ask c.row_of.result [] ∷ []) (map clearing (take (i + 1) cells)) (map clearing cells) c.args.log.now.room c.loop-cell.log.room
    (cells_more clearing cells i c.row_of.result [] c.loop-cell-test.true c.row_of.ensures.number refl) (cells_fit clearing cells (i + 1)) c.requires.room c.loop-cell.invariant.stays.room

pub loop-cell-preserved : goal.loop-cell-preserved
loop-cell-preserved g c =
    let cells = c.args.cells.now in
    let i = c.loop-cell.cell-index in
    let more : List Ask = ask c.row_of.result [] ∷ [] in
    let e : map clearing (take (i + 1) cells) ≡ map clearing (take i cells) ++ more = cells_more clearing cells i c.row_of.result [] c.loop-cell-test.true c.row_of.ensures.number refl in
    record {
      moved = moved_more (map clearing (take i cells)) more (map clearing (take (i + 1) cells)) _ _ _ _ _ _ e c.loop-cell.invariant.moved c.clear.ensures.moved;
      stays = stays_more (map clearing (take i cells)) more (map clearing (take (i + 1) cells)) _ _ _ _ _ _ e c.loop-cell.invariant.stays c.clear.ensures.stays;
    }
