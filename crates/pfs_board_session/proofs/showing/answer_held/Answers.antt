use Rattle.std.proofs.Common.{◌∷◌, [], ap, arith, length, subst}
use Rattle.pfs_admin.specs.declared.changes.SetupStatement.TheVariants.{Show}
use Rattle.pfs_session.specs.Inquiries.{Remarks}
use Rattle.pfs_session.specs.Turns.{Changes, Inquires, Played, SettlesHeld}
use Rattle.pfs_session.specs.declared.remarks.Remark.TheVariants.{Rows}
use Rattle.pfs_session.proofs.StepLists.{played_then}
use Rattle.pfs_board_session.proofs.SessionActions.{remarked}
use Rattle.pfs_board_session.proofs.showing.answer_held.Goals as goal

pub append-requires : goal.append-requires
append-requires g c = record { room = omega (arith, c.act.ensures.used.room, c.requires.may.affords.room) }

pub returns-in-Ok-clause-played : goal.returns-in-Ok-clause-played
returns-in-Ok-clause-played g c =
    let reached = (g.H.Readable.seen c.act.new.rows).reached in
    let tells = subst (λ n. Played (Inquires (Remarks (Rows n)) ∷ []) c.act.new.self c.append.new.self reached reached) (ap length c.as_slice.ensures)
    (remarked (Rows (length c.as_slice.result.now)) c.act.new.self c.append.new.self reached c.append.ensures.does c.append.ensures.entries) in
    played_then (SettlesHeld ∷ Changes c.args.admin.now Show ∷ []) (Inquires (Remarks (Rows (length c.in-Ok.answer))) ∷ []) c.args.session.now c.act.new.self c.append.new.self _ _ _ c.act.ensures.played tells

pub returns-in-Ok-clause-used : goal.returns-in-Ok-clause-used
returns-in-Ok-clause-used g c =
    let used = c.act.ensures.used in
    record {
      left = used.left;
      draws = used.draws;
      no_more = used.no_more;
      hand = used.hand;
      words = used.words;
      name = used.name;
      room = omega (arith, used.room, c.append.ensures.room);
    }

pub returns-in-Err-clause-used : goal.returns-in-Err-clause-used
returns-in-Err-clause-used g c =
    let used = c.act.ensures.used in
    record {
      left = used.left;
      draws = used.draws;
      no_more = used.no_more;
      hand = used.hand;
      words = used.words;
      name = used.name;
      room = omega (arith, used.room);
    }

pub act-requires-clause-may : goal.act-requires-clause-may
act-requires-clause-may g c =
    let may = c.requires.may in
    record { few = may.few; alone = may.alone; lent = may.lent; affords = record { left = may.affords.left; draws = may.affords.draws; room = omega (arith, may.affords.room) } }
