use Rattle.std.proofs.Common.{◌≡◌, ◌+◌, ◌*◌, cond, [], is_some, sym, subst, ap, ◌∙◌, arith}
use Rattle.pfs_levels.specs.declared.places.Level.TheVariants as levels
use Rattle.pfs_levels.proofs.FlushSteps.{stays_then, stays_as}
use Rattle.pfs_admin.specs.WordChanges.{up_to}
use Rattle.pfs_admin.specs.Truncations.{free_rows, free_slot, free_threads, is_there}
use Rattle.pfs_admin.specs.Works.{Signed}
use Rattle.pfs_admin.proofs.RowReleases.{threads_whole}
use Rattle.pfs_admin.proofs.LevelMoves.{up_next}
use Rattle.pfs_admin.proofs.SignLists.{signed_then}
use Rattle.pfs_admin.proofs.freeing.release_threads.Goals as goal

pub release_slot-requires-clause-spare : goal.release_slot-requires-clause-spare
release_slot-requires-clause-spare g c = omega (arith, c.requires.spare, c.loop-slot.invariant.stays.left)

pub release_slot-requires-clause-room : goal.release_slot-requires-clause-room
release_slot-requires-clause-room g c = omega (arith, c.requires.room, c.loop-slot.invariant.stays.room)

pub loop-slot-preserved : goal.loop-slot-preserved
loop-slot-preserved g c =
    let test = is_there c.args.containers.now.now.places levels.Thread in
    let f = free_slot test c.args.first c.args.count in
    let i = c.loop-slot.slot in
    let there : c.is_some-there.result ≡ test i = c.is_some-there.ensures ∙ ap is_some c.source_at.ensures.source in
    let signed = subst (λ b. Signed (cond b (free_rows (8450 + 56 * i + c.args.first) c.args.count) []) c.loop-slot.log c.release_slot.new.log (g.H.Readable.seen c.loop-slot.rows).reached (g.H.Readable.seen c.release_slot.new.rows).reached) there c.release_slot.ensures.signed in
    record {
      signed = subst (λ z. Signed z c.args.log.now c.release_slot.new.log (g.H.Readable.seen c.args.rows.now).reached (g.H.Readable.seen c.release_slot.new.rows).reached) (sym (up_next f i))
          (signed_then (up_to f i) (f i) _ _ _ _ _ _ c.loop-slot.invariant.signed signed);
      stays = stays_as _ _ _ _ _ _ (omega arith)
          (stays_then (10 * i) 10 _ _ _ _ _ _ c.loop-slot.invariant.stays c.release_slot.ensures.stays);
    }

pub returns-clause-signed : goal.returns-clause-signed
returns-clause-signed g c =
    let whole : up_to (free_slot (is_there c.args.containers.now.now.places levels.Thread) c.args.first c.args.count) c.loop-slot.slot
    ≡ free_threads (is_there c.args.containers.now.now.places levels.Thread) c.args.first c.args.count =
    threads_whole (is_there c.args.containers.now.now.places levels.Thread) c.args.first c.args.count c.loop-slot.slot (omega arith) in
    subst (λ z. Signed z c.args.log.now c.loop-slot.log (g.H.Readable.seen c.args.rows.now).reached (g.H.Readable.seen c.loop-slot.rows).reached) whole c.loop-slot.invariant.signed

pub returns-clause-stays : goal.returns-clause-stays
returns-clause-stays g c =
    stays_as _ _ _ _ _ _ (omega arith) c.loop-slot.invariant.stays
