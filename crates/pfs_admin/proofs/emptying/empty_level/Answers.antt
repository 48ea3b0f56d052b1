use Rattle.std.proofs.Common.{◌≡◌, ◌+◌, ◌++◌, ap, sym, subst, ◌∙◌, arith}
use Rattle.pfs_levels.specs.Moves.{Moved, cost}
use Rattle.pfs_levels.proofs.FlushSteps.{enough, moved_more, stays_more, stays_as}
use Rattle.pfs_admin.specs.WordChanges.{up_to}
use Rattle.pfs_admin.specs.Truncations.{asks_at, place_asks, level_asks}
use Rattle.pfs_admin.proofs.LevelMoves.{up_next, level_front, level_whole}
use Rattle.pfs_admin.proofs.emptying.empty_level.Goals as goal

pub empty_place-requires-clause-spare : goal.empty_place-requires-clause-spare
empty_place-requires-clause-spare g c =
    let s = c.args.containers.now.now.places in
    let cells = c.args.cells.now in
    let f = asks_at s cells c.args.level in
    let i = c.loop-place.place in
    enough (up_to f i) (place_asks cells c.source_at-source.result) (up_to f (i + 1)) (level_asks s cells c.args.level) (g.H.Readable.seen c.args.rows.now).left (g.H.Readable.seen c.loop-place.rows).left
    (up_next f i ∙ ap (λ z. up_to f i ++ place_asks cells z) (sym c.source_at-source.ensures.source))
    (level_front s cells c.args.level (i + 1) (omega arith)) c.requires.spare c.loop-place.invariant.stays.left

pub empty_place-requires-clause-room : goal.empty_place-requires-clause-room
empty_place-requires-clause-room g c =
    let s = c.args.containers.now.now.places in
    let cells = c.args.cells.now in
    let f = asks_at s cells c.args.level in
    let i = c.loop-place.place in
    enough (up_to f i) (place_asks cells c.source_at-source.result) (up_to f (i + 1)) (level_asks s cells c.args.level) c.args.log.now.room c.loop-place.log.room
    (up_next f i ∙ ap (λ z. up_to f i ++ place_asks cells z) (sym c.source_at-source.ensures.source))
    (level_front s cells c.args.level (i + 1) (omega arith)) c.requires.room c.loop-place.invariant.stays.room

pub loop-place-preserved : goal.loop-place-preserved
loop-place-preserved g c =
    let s = c.args.containers.now.now.places in
    let cells = c.args.cells.now in
    let f = asks_at s cells c.args.level in
    let i = c.loop-place.place in
    let more = place_asks cells c.source_at-source.result in
    let e : up_to f (i + 1) ≡ up_to f i ++ more =
    up_next f i ∙ ap (λ z. up_to f i ++ place_asks cells z) (sym c.source_at-source.ensures.source) in
    record {
      moved = moved_more (up_to f i) more (up_to f (i + 1)) _ _ _ _ _ _ e c.loop-place.invariant.moved c.empty_place.ensures.moved;
      stays = stays_more (up_to f i) more (up_to f (i + 1)) _ _ _ _ _ _ e c.loop-place.invariant.stays c.empty_place.ensures.stays;
    }

pub returns-clause-moved : goal.returns-clause-moved
returns-clause-moved g c =
    let whole : up_to (asks_at c.args.containers.now.now.places c.args.cells.now c.args.level) c.loop-place.place
    ≡ level_asks c.args.containers.now.now.places c.args.cells.now c.args.level =
    level_whole c.args.containers.now.now.places c.args.cells.now c.args.level c.loop-place.place (omega arith) in
    subst (λ z. Moved z c.args.log.now c.loop-place.log (g.H.Readable.seen c.args.rows.now).reached (g.H.Readable.seen c.loop-place.rows).reached) whole c.loop-place.invariant.moved

pub returns-clause-stays : goal.returns-clause-stays
returns-clause-stays g c =
    let whole : up_to (asks_at c.args.containers.now.now.places c.args.cells.now c.args.level) c.loop-place.place
    ≡ level_asks c.args.containers.now.now.places c.args.cells.now c.args.level =
    level_whole c.args.containers.now.now.places c.args.cells.now c.args.level c.loop-place.place (omega arith) in
    stays_as _ _ _ _ _ _ (ap cost whole) c.loop-place.invariant.stays
