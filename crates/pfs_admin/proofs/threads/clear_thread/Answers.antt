use Rattle.std.proofs.Common.{rules, ◌∙◌, arith}
use Rattle.pfs_admin.specs.ConnectionAsks.{up_of}
use Rattle.pfs_admin.proofs.QuitCosts.{cost_small}
use Rattle.pfs_admin.proofs.SignLists.{signed_then, worked_all}
use Rattle.pfs_admin.proofs.threads.clear_thread.Goals as goal

pub flush_cells-requires-clause-spare : goal.flush_cells-requires-clause-spare
flush_cells-requires-clause-spare g c = omega (arith, cost_small (up_of c.args.seat.now) c.args.cells.now, c.requires.spare)

pub flush_cells-requires-clause-room : goal.flush_cells-requires-clause-room
flush_cells-requires-clause-room g c = omega (arith, cost_small (up_of c.args.seat.now) c.args.cells.now, c.requires.room)

pub release-requires-clause-spare : goal.release-requires-clause-spare
release-requires-clause-spare g c =
    omega (arith, cost_small (up_of c.args.seat.now) c.args.cells.now, c.requires.spare, c.flush_cells.ensures.stays.left)

pub release-requires-clause-room : goal.release-requires-clause-room
release-requires-clause-room g c =
    omega (arith, cost_small (up_of c.args.seat.now) c.args.cells.now, c.requires.room, c.flush_cells.ensures.stays.room)

pub tag_uppers-requires-clause-spare : goal.tag_uppers-requires-clause-spare
tag_uppers-requires-clause-spare g c =
    omega (arith, cost_small (up_of c.args.seat.now) c.args.cells.now, c.requires.spare, c.flush_cells.ensures.stays.left, c.release.ensures.stays.left)

pub tag_uppers-requires-clause-room : goal.tag_uppers-requires-clause-room
tag_uppers-requires-clause-room g c =
    omega (arith, cost_small (up_of c.args.seat.now) c.args.cells.now, c.requires.room, c.flush_cells.ensures.stays.room, c.release.ensures.stays.room)

pub release_ring-requires-clause-spare : goal.release_ring-requires-clause-spare
release_ring-requires-clause-spare g c =
    omega (arith, cost_small (up_of c.args.seat.now) c.args.cells.now, c.requires.spare, c.flush_cells.ensures.stays.left, c.release.ensures.stays.left, c.tag_uppers.ensures.stays.left)

pub release_ring-requires-clause-room : goal.release_ring-requires-clause-room
release_ring-requires-clause-room g c =
    omega (arith, cost_small (up_of c.args.seat.now) c.args.cells.now, c.requires.room, c.flush_cells.ensures.stays.room, c.release.ensures.stays.room, c.tag_uppers.ensures.stays.room)

pub flag-requires-clause-room : goal.flag-requires-clause-room
flag-requires-clause-room g c =
    omega (
      arith,
      cost_small (up_of c.args.seat.now) c.args.cells.now,
      c.requires.room,
      c.flush_cells.ensures.stays.room,
      c.release.ensures.stays.room,
      c.tag_uppers.ensures.stays.room,
      c.release_ring.ensures.stays.room,
    )

pub returns-clause-worked : goal.returns-clause-worked
returns-clause-worked g c =
    worked_all _ _ _ _ _ _ _ _ _ _ _ _ c.flush_cells.ensures.moved
    (signed_then _ _ _ _ _ _ _ _ c.release.ensures.signed (signed_then _ _ _ _ _ _ _ _ c.tag_uppers.ensures.signed c.release_ring.ensures.signed)) c.flag.ensures.did

pub returns-clause-used : goal.returns-clause-used
returns-clause-used g c = record {
  hand = λ r. c.flag.ensures.used.hand r
      ∙ (c.release_ring.ensures.stays.hand r ∙ (c.tag_uppers.ensures.stays.hand r ∙ (c.release.ensures.stays.hand r ∙ c.flush_cells.ensures.stays.hand r)));
  left = omega (
    arith,
    cost_small (up_of c.args.seat.now) c.args.cells.now,
    c.flush_cells.ensures.stays.left,
    c.release.ensures.stays.left,
    c.tag_uppers.ensures.stays.left,
    c.release_ring.ensures.stays.left,
    c.flag.ensures.used.left,
  );
  draws = search rules;
  no_more = search rules;
  words = search rules;
  name = search rules;
  room = omega (
    arith,
    cost_small (up_of c.args.seat.now) c.args.cells.now,
    c.flush_cells.ensures.stays.room,
    c.release.ensures.stays.room,
    c.tag_uppers.ensures.stays.room,
    c.release_ring.ensures.stays.room,
    c.flag.ensures.used.room,
  );
}
