use Rattle.std.proofs.Common.{◌≤◌}
use Rattle.pfs_levels.specs.Moves.{cost}
use Rattle.pfs_levels.proofs.MoveLists.{moved_then}
use Rattle.pfs_admin.specs.Truncations.{lower_asks, upper_asks}
use Rattle.pfs_admin.proofs.LevelMoves.{first_fits, next_fits, stays_both}
use Rattle.pfs_admin.proofs.summaries.empty_levels.Goals as goal

pub empty_lower-requires-clause-spare : goal.empty_lower-requires-clause-spare
empty_lower-requires-clause-spare g c =
    let s = c.args.containers.now.now.places in
    first_fits (lower_asks s c.args.reach c.args.cells.now) (upper_asks s c.args.reach c.args.cells.now) (g.H.Readable.seen c.args.rows.now).left c.requires.spare

pub empty_upper-requires-clause-spare : goal.empty_upper-requires-clause-spare
empty_upper-requires-clause-spare g c =
    let s = c.args.containers.now.now.places in
    let fits_1 : cost (upper_asks s c.args.reach c.args.cells.now) ≤ (g.H.Readable.seen c.empty_lower.new.rows).left = next_fits (lower_asks s c.args.reach c.args.cells.now) (upper_asks s c.args.reach c.args.cells.now) (g.H.Readable.seen c.args.rows.now).left (g.H.Readable.seen c.empty_lower.new.rows).left c.requires.spare c.empty_lower.ensures.stays.left in
    fits_1

pub empty_lower-requires-clause-room : goal.empty_lower-requires-clause-room
empty_lower-requires-clause-room g c =
    let s = c.args.containers.now.now.places in
    first_fits (lower_asks s c.args.reach c.args.cells.now) (upper_asks s c.args.reach c.args.cells.now) c.args.log.now.room c.requires.room

pub empty_upper-requires-clause-room : goal.empty_upper-requires-clause-room
empty_upper-requires-clause-room g c =
    let s = c.args.containers.now.now.places in
    let fits_1 : cost (upper_asks s c.args.reach c.args.cells.now) ≤ c.empty_lower.new.log.room = next_fits (lower_asks s c.args.reach c.args.cells.now) (upper_asks s c.args.reach c.args.cells.now) c.args.log.now.room c.empty_lower.new.log.room c.requires.room c.empty_lower.ensures.stays.room in
    fits_1

pub returns-clause-moved : goal.returns-clause-moved
returns-clause-moved g c =
    let s = c.args.containers.now.now.places in
    moved_then (lower_asks s c.args.reach c.args.cells.now) (upper_asks s c.args.reach c.args.cells.now) _ _ _ _ _ _ c.empty_lower.ensures.moved c.empty_upper.ensures.moved

pub returns-clause-stays : goal.returns-clause-stays
returns-clause-stays g c =
    let s = c.args.containers.now.now.places in
    stays_both (lower_asks s c.args.reach c.args.cells.now) (upper_asks s c.args.reach c.args.cells.now) _ _ _ _ _ _ c.empty_lower.ensures.stays c.empty_upper.ensures.stays
