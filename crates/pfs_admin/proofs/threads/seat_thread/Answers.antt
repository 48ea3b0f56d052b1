use Rattle.std.proofs.Common.{rules, ◌+◌, [], ◌∷◌, subst}
use Rattle.pfs_containers.specs.PlaceInfos.{thread_info_of}
use Rattle.pfs_containers.specs.InfoWords.{thread_words}
use Rattle.pfs_admin.specs.Works.{Signed, Tags}
use Rattle.pfs_admin.proofs.SignLists.{signed_then, worked_all, moved_none}
use Rattle.pfs_admin.proofs.threads.seat_thread.Goals as goal

pub returns-clause-worked : goal.returns-clause-worked
returns-clause-worked g c =
    let own : Signed (Tags (1 + c.args.seat.now.slot) (thread_words (thread_info_of c.args.seat.now.connection)) ∷ []) c.args.log.now
    c.tag.new.log (g.H.Readable.seen c.args.rows.now).reached (g.H.Readable.seen c.tag.new.rows).reached =
    subst (λ z. Signed (Tags (1 + c.args.seat.now.slot) z ∷ []) c.args.log.now c.tag.new.log (g.H.Readable.seen c.args.rows.now).reached
    (g.H.Readable.seen c.tag.new.rows).reached) (search rules) c.tag.ensures.signed in
    worked_all _ _ _ _ _ _ _ _ _ _ _ _ (moved_none _ _)
    (signed_then _ _ _ _ _ _ _ _ own c.tag_uppers.ensures.signed) c.flag.ensures.did
