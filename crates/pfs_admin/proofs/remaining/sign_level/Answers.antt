use Rattle.std.proofs.Common.{◌≡◌, cond, sym, subst, arith}
use Rattle.pfs_levels.proofs.FlushSteps.{stays_then, stays_as}
use Rattle.pfs_admin.specs.WordChanges.{up_to}
use Rattle.pfs_admin.specs.Truncations.{count_up_to, flag_at, sign_at, level_signs}
use Rattle.pfs_admin.specs.Works.{Signed}
use Rattle.pfs_admin.proofs.LevelMoves.{up_next}
use Rattle.pfs_admin.proofs.InfoPlaces.{count_next, count_whole, signs_whole, enough_places}
use Rattle.pfs_admin.proofs.SignLists.{signed_then}
use Rattle.pfs_admin.proofs.remaining.sign_level.Goals as goal

pub sign_place-requires-clause-spare : goal.sign_place-requires-clause-spare
sign_place-requires-clause-spare g c =
    enough_places (flag_at c.args.was.now) c.loop-place.place (g.H.Readable.seen c.args.rows.now).left (g.H.Readable.seen c.loop-place.rows).left (omega arith) c.requires.spare c.loop-place.invariant.stays.left

pub sign_place-requires-clause-room : goal.sign_place-requires-clause-room
sign_place-requires-clause-room g c =
    enough_places (flag_at c.args.was.now) c.loop-place.place c.args.log.now.room c.loop-place.log.room (omega arith) c.requires.room c.loop-place.invariant.stays.room

pub loop-place-preserved : goal.loop-place-preserved
loop-place-preserved g c =
    let f = sign_at c.args.written (flag_at c.args.was.now) c.args.containers.now.now c.args.level in
    let i = c.loop-place.place in
    record {
      signed = subst (λ z. Signed z c.args.log.now c.sign_place.new.log (g.H.Readable.seen c.args.rows.now).reached (g.H.Readable.seen c.sign_place.new.rows).reached) (sym (up_next f i))
          (signed_then (up_to f i) (f i) _ _ _ _ _ _ c.loop-place.invariant.signed c.sign_place.ensures.signed);
      stays = stays_as _ _ _ _ _ _ (sym (count_next (flag_at c.args.was.now) i))
          (stays_then (count_up_to (flag_at c.args.was.now) i) (cond (flag_at c.args.was.now i) 1 0) _ _ _ _ _ _ c.loop-place.invariant.stays c.sign_place.ensures.stays);
    }

pub returns-clause-signed : goal.returns-clause-signed
returns-clause-signed g c =
    let whole : up_to (sign_at c.args.written (flag_at c.args.was.now) c.args.containers.now.now c.args.level) c.loop-place.place
    ≡ level_signs c.args.written (flag_at c.args.was.now) c.args.containers.now.now c.args.level =
    signs_whole c.args.written (flag_at c.args.was.now) c.args.containers.now.now c.args.level c.loop-place.place (omega arith) in
    subst (λ z. Signed z c.args.log.now c.loop-place.log (g.H.Readable.seen c.args.rows.now).reached (g.H.Readable.seen c.loop-place.rows).reached) whole c.loop-place.invariant.signed

pub returns-clause-stays : goal.returns-clause-stays
returns-clause-stays g c =
    stays_as _ _ _ _ _ _ (count_whole (flag_at c.args.was.now) c.loop-place.place (omega arith)) c.loop-place.invariant.stays
