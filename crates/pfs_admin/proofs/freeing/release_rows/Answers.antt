use Rattle.std.proofs.Common.{◌≡◌, sym, subst, arith}
use Rattle.pfs_levels.proofs.FlushSteps.{stays_then, stays_as}
use Rattle.pfs_admin.specs.WordChanges.{up_to}
use Rattle.pfs_admin.specs.Truncations.{freed_at, free_rows}
use Rattle.pfs_admin.specs.Works.{Signed}
use Rattle.pfs_admin.proofs.RowReleases.{rows_whole}
use Rattle.pfs_admin.proofs.LevelMoves.{up_next}
use Rattle.pfs_admin.proofs.SignLists.{signed_then}
use Rattle.pfs_admin.proofs.freeing.release_rows.Goals as goal

pub release-requires-clause-spare : goal.release-requires-clause-spare
release-requires-clause-spare g c = omega (arith, c.requires.spare, c.loop-place.invariant.stays.left)

pub release-requires-clause-room : goal.release-requires-clause-room
release-requires-clause-room g c = omega (arith, c.requires.room, c.loop-place.invariant.stays.room)

pub loop-place-preserved : goal.loop-place-preserved
loop-place-preserved g c =
    let f = freed_at c.args.first in
    let i = c.loop-place.place in
    record {
      signed = subst (λ z. Signed z c.args.log.now c.release.new.log (g.H.Readable.seen c.args.rows.now).reached (g.H.Readable.seen c.release.new.rows).reached) (sym (up_next f i))
          (signed_then (up_to f i) (f i) _ _ _ _ _ _ c.loop-place.invariant.signed c.release.ensures.signed);
      stays = stays_then i 1 _ _ _ _ _ _ c.loop-place.invariant.stays c.release.ensures.stays;
    }

pub returns-clause-signed : goal.returns-clause-signed
returns-clause-signed g c =
    let whole : up_to (freed_at c.args.first) c.loop-place.place ≡ free_rows c.args.first c.args.count =
    rows_whole c.args.first c.args.count c.loop-place.place (omega arith) in
    subst (λ z. Signed z c.args.log.now c.loop-place.log (g.H.Readable.seen c.args.rows.now).reached (g.H.Readable.seen c.loop-place.rows).reached) whole c.loop-place.invariant.signed

pub returns-clause-stays : goal.returns-clause-stays
returns-clause-stays g c =
    stays_as _ _ _ _ _ _ (omega arith) c.loop-place.invariant.stays
