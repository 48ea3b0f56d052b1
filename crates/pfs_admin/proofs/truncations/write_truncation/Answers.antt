use Rattle.std.proofs.Common.{◌≡◌, subst, ◌∙◌, arith}
use Rattle.pfs_containers.specs.ContainerState.{Kept}
use Rattle.pfs_admin.specs.Truncations.{is_there, kept_behind, signs_most, truncation_signs, was_by}
use Rattle.pfs_admin.specs.Works.{Signed}
use Rattle.pfs_admin.proofs.InfoPlaces.{signs_same, most_same}
use Rattle.pfs_admin.proofs.SignLists.{worked_all}
use Rattle.pfs_admin.proofs.truncations.write_truncation.Goals as goal

pub move_truncated-requires-clause-spare : goal.move_truncated-requires-clause-spare
move_truncated-requires-clause-spare g c = omega (arith, c.requires.spare)

pub move_truncated-requires-clause-room : goal.move_truncated-requires-clause-room
move_truncated-requires-clause-room g c = omega (arith, c.requires.room)

pub sign_truncated-requires-clause-spare : goal.sign_truncated-requires-clause-spare
sign_truncated-requires-clause-spare g c =
    omega (arith, most_same c.args.containers.now.now.places c.of-before.result c.args.what c.of-before.ensures, c.requires.spare, c.move_truncated.ensures.stays.left)

pub sign_truncated-requires-clause-room : goal.sign_truncated-requires-clause-room
sign_truncated-requires-clause-room g c =
    omega (arith, most_same c.args.containers.now.now.places c.of-before.result c.args.what c.of-before.ensures, c.requires.room, c.move_truncated.ensures.stays.room)

pub set_truncated-requires-clause-room : goal.set_truncated-requires-clause-room
set_truncated-requires-clause-room g c =
    omega (arith, most_same c.args.containers.now.now.places c.of-before.result c.args.what c.of-before.ensures, c.requires.room, c.move_truncated.ensures.stays.room, c.sign_truncated.ensures.stays.room)

pub returns-clause-worked : goal.returns-clause-worked
returns-clause-worked g c =
    let behind : c.free_truncated.new.containers ≡ kept_behind c.args.containers.now c.args.what = c.free_truncated.ensures in
    let signed : Signed (truncation_signs (was_by c.of-before.result) (kept_behind c.args.containers.now c.args.what).now c.args.what) c.move_truncated.new.log c.sign_truncated.new.log (g.H.Readable.seen c.move_truncated.new.rows).reached (g.H.Readable.seen c.sign_truncated.new.rows).reached =
    subst (λ (z : Kept). Signed (truncation_signs (was_by c.of-before.result) z.now c.args.what) c.move_truncated.new.log c.sign_truncated.new.log (g.H.Readable.seen c.move_truncated.new.rows).reached (g.H.Readable.seen c.sign_truncated.new.rows).reached) behind c.sign_truncated.ensures.signed in
    worked_all _ _ _ _ _ _ _ _ _ _ _ _ c.move_truncated.ensures.moved
    (subst (λ z. Signed z c.move_truncated.new.log c.sign_truncated.new.log (g.H.Readable.seen c.move_truncated.new.rows).reached (g.H.Readable.seen c.sign_truncated.new.rows).reached)
    (signs_same c.args.containers.now.now.places c.of-before.result (kept_behind c.args.containers.now c.args.what).now c.args.what c.of-before.ensures) signed)
    c.set_truncated.ensures.did

pub returns-clause-used : goal.returns-clause-used
returns-clause-used g c =
    let most : signs_most (was_by c.of-before.result) c.args.what ≡ signs_most (is_there c.args.containers.now.now.places) c.args.what =
    most_same c.args.containers.now.now.places c.of-before.result c.args.what c.of-before.ensures in
    record {
      left = omega (arith, most, c.move_truncated.ensures.stays.left, c.sign_truncated.ensures.stays.left, c.set_truncated.ensures.used.left);
      draws = omega (arith, c.move_truncated.ensures.stays.draws, c.sign_truncated.ensures.stays.draws, c.set_truncated.ensures.used.draws);
      no_more = omega (arith, c.move_truncated.ensures.stays.no_more, c.sign_truncated.ensures.stays.no_more, c.set_truncated.ensures.used.no_more);
      hand = λ r. c.set_truncated.ensures.used.hand r ∙ (c.sign_truncated.ensures.stays.hand r ∙ c.move_truncated.ensures.stays.hand r);
      words = c.set_truncated.ensures.used.words;
      name = c.set_truncated.ensures.used.name ∙ (c.sign_truncated.ensures.stays.name ∙ c.move_truncated.ensures.stays.name);
      room = omega (arith, most, c.move_truncated.ensures.stays.room, c.sign_truncated.ensures.stays.room, c.set_truncated.ensures.used.room);
    }
