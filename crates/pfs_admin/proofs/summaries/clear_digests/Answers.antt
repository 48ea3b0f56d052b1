use Rattle.std.proofs.Common.{◌≡◌, ◌+◌, List, [], ◌∷◌, ◌++◌, ap, sym, subst, ◌∙◌, arith}
use Rattle.pfs_levels.specs.Moves.{Ask, ask, Moved, cost}
use Rattle.pfs_levels.proofs.FlushSteps.{enough, moved_more, stays_more, stays_as}
use Rattle.pfs_admin.specs.WordChanges.{up_to}
use Rattle.pfs_admin.specs.Truncations.{digest_ask, digest_asks}
use Rattle.pfs_admin.proofs.LevelMoves.{up_next, digests_front, digests_whole}
use Rattle.pfs_admin.proofs.summaries.clear_digests.Goals as goal

pub clear-requires-clause-spare : goal.clear-requires-clause-spare
clear-requires-clause-spare g c =
    let i = c.loop-at.at in
    enough (up_to digest_ask i) (ask (c.row_of.result + i) [] ∷ []) (up_to digest_ask (i + 1)) (digest_asks c.args.places) (g.H.Readable.seen c.args.rows.now).left (g.H.Readable.seen c.loop-at.rows).left
    (up_next digest_ask i ∙ ap (λ z. up_to digest_ask i ++ ask (z + i) [] ∷ []) (sym c.row_of.ensures.number))
    (digests_front c.args.places (i + 1) (omega arith)) c.requires.spare c.loop-at.invariant.stays.left

pub clear-requires-clause-room : goal.clear-requires-clause-room
clear-requires-clause-room g c =
    let i = c.loop-at.at in
    enough (up_to digest_ask i) (ask (c.row_of.result + i) [] ∷ []) (up_to digest_ask (i + 1)) (digest_asks c.args.places) c.args.log.now.room c.loop-at.log.room
    (up_next digest_ask i ∙ ap (λ z. up_to digest_ask i ++ ask (z + i) [] ∷ []) (sym c.row_of.ensures.number))
    (digests_front c.args.places (i + 1) (omega arith)) c.requires.room c.loop-at.invariant.stays.room

pub loop-at-preserved : goal.loop-at-preserved
loop-at-preserved g c =
    let i = c.loop-at.at in
    let more : List Ask = ask (c.row_of.result + i) [] ∷ [] in
    let e : up_to digest_ask (i + 1) ≡ up_to digest_ask i ++ more =
    up_next digest_ask i ∙ ap (λ z. up_to digest_ask i ++ ask (z + i) [] ∷ []) (sym c.row_of.ensures.number) in
    record {
      moved = moved_more (up_to digest_ask i) more (up_to digest_ask (i + 1)) _ _ _ _ _ _ e c.loop-at.invariant.moved c.clear.ensures.moved;
      stays = stays_more (up_to digest_ask i) more (up_to digest_ask (i + 1)) _ _ _ _ _ _ e c.loop-at.invariant.stays c.clear.ensures.stays;
    }

pub returns-clause-moved : goal.returns-clause-moved
returns-clause-moved g c =
    let whole : up_to digest_ask c.loop-at.at ≡ digest_asks c.args.places = digests_whole c.args.places c.loop-at.at (omega arith) in
    subst (λ z. Moved z c.args.log.now c.loop-at.log (g.H.Readable.seen c.args.rows.now).reached (g.H.Readable.seen c.loop-at.rows).reached) whole c.loop-at.invariant.moved

pub returns-clause-stays : goal.returns-clause-stays
returns-clause-stays g c =
    let whole : up_to digest_ask c.loop-at.at ≡ digest_asks c.args.places = digests_whole c.args.places c.loop-at.at (omega arith) in
    stays_as _ _ _ _ _ _ (ap cost whole) c.loop-at.invariant.stays
