use Rattle.std.proofs.Common.{ℕ, ◌≡◌, ◌+◌, ◌<◌, List, ◌++◌, length, take, arith, sym, subst, slice_index_or}
use Rattle.std.specs.List.{flat_map, All}
use Rattle.pfs_levels.specs.Flushes.{asks_of, cells_of, sources_of}
use Rattle.pfs_levels.proofs.FlushSteps.{sources_more_at, sources_fit, enough, moved_more, stays_more, ascends_below, away_now, away_as}
use Rattle.pfs_levels.proofs.flushes.flush.Goals as goal

pub flush_cells-requires-clause-cells : goal.flush_cells-requires-clause-cells
flush_cells-requires-clause-cells g c =
    let P : List ℕ → Type 0 = λ z. All (λ x. x < 64) z in
    subst P (sym c.cells-cells.ensures) (ascends_below 0 64 (cells_of c.args.places.now c.args.kind) c.requires.places.cells)

pub flush_cells-requires-clause-away : goal.flush_cells-requires-clause-away
flush_cells-requires-clause-away g c =
    let ss = sources_of c.args.places.now c.args.level in
    let s = c.source.result in
    let low : c.loop-at.at < length ss = omega (arith, c.loop-at-test.true, c.count-at-end.ensures) in
    away_now (g.H.Readable.seen c.args.rows.now).hand (g.H.Readable.seen c.loop-at.rows).hand c.cells-cells.result.now s c.loop-at.invariant.stays.hand
    (away_as (g.H.Readable.seen c.args.rows.now).hand (cells_of c.args.places.now c.args.kind) c.cells-cells.result.now (slice_index_or ss c.loop-at.at s) s (sym c.cells-cells.ensures) (sym (c.source.ensures s)) (c.requires.away c.loop-at.at s low))

pub flush_cells-requires-clause-spare : goal.flush_cells-requires-clause-spare
flush_cells-requires-clause-spare g c =
    let ss = sources_of c.args.places.now c.args.level in
    let k = asks_of (cells_of c.args.places.now c.args.kind) in
    let i = c.loop-at.at in
    let low : i < length ss = omega (arith, c.loop-at-test.true, c.count-at-end.ensures) in
    enough (flat_map k (take i ss)) (asks_of c.cells-cells.result.now c.source.result) (flat_map k (take (i + 1) ss)) (flat_map k ss) (g.H.Readable.seen c.args.rows.now).left (g.H.Readable.seen c.loop-at.rows).left
    (sources_more_at _ c.cells-cells.result.now ss i c.source.result low (sym c.cells-cells.ensures) (c.source.ensures c.source.result)) (sources_fit k ss (i + 1)) c.requires.spare c.loop-at.invariant.stays.left

pub flush_cells-requires-clause-room : goal.flush_cells-requires-clause-room
flush_cells-requires-clause-room g c =
    let ss = sources_of c.args.places.now c.args.level in
    let k = asks_of (cells_of c.args.places.now c.args.kind) in
    let i = c.loop-at.at in
    let low : i < length ss = omega (arith, c.loop-at-test.true, c.count-at-end.ensures) in
    enough (flat_map k (take i ss)) (asks_of c.cells-cells.result.now c.source.result) (flat_map k (take (i + 1) ss)) (flat_map k ss) c.args.log.now.room c.loop-at.log.room
    (sources_more_at _ c.cells-cells.result.now ss i c.source.result low (sym c.cells-cells.ensures) (c.source.ensures c.source.result)) (sources_fit k ss (i + 1)) c.requires.room c.loop-at.invariant.stays.room

pub loop-at-preserved : goal.loop-at-preserved
loop-at-preserved g c =
    let ss = sources_of c.args.places.now c.args.level in
    let k = asks_of (cells_of c.args.places.now c.args.kind) in
    let i = c.loop-at.at in
    let more = asks_of c.cells-cells.result.now c.source.result in
    let low : i < length ss = omega (arith, c.loop-at-test.true, c.count-at-end.ensures) in
    let e : flat_map k (take (i + 1) ss) ≡ flat_map k (take i ss) ++ more = sources_more_at _ c.cells-cells.result.now ss i c.source.result low (sym c.cells-cells.ensures) (c.source.ensures c.source.result) in
    record {
      moved = moved_more (flat_map k (take i ss)) more (flat_map k (take (i + 1) ss)) _ _ _ _ _ _ e c.loop-at.invariant.moved c.flush_cells.ensures.moved;
      stays = stays_more (flat_map k (take i ss)) more (flat_map k (take (i + 1) ss)) _ _ _ _ _ _ e c.loop-at.invariant.stays c.flush_cells.ensures.stays;
    }
