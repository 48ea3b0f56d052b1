use Rattle.std.proofs.Common.{◌≤◌}
use Rattle.pfs_levels.specs.declared.places.Level.TheVariants as levels
use Rattle.pfs_levels.specs.Moves.{cost}
use Rattle.pfs_levels.proofs.MoveLists.{moved_then}
use Rattle.pfs_admin.specs.Truncations.{emptied, cleared}
use Rattle.pfs_admin.proofs.LevelMoves.{first_fits, next_fits, stays_both}
use Rattle.pfs_admin.proofs.summaries.empty_beyond.Goals as goal

pub empty_level_if-requires-clause-spare : goal.empty_level_if-requires-clause-spare
empty_level_if-requires-clause-spare g c =
    let s = c.args.containers.now.now.places in
    first_fits (emptied c.args.reach.hosts s c.args.cells.now levels.Host) (cleared c.args.reach.global c.args.cells.now) (g.H.Readable.seen c.args.rows.now).left c.requires.spare

pub clear_global_if-requires-clause-spare : goal.clear_global_if-requires-clause-spare
clear_global_if-requires-clause-spare g c =
    let s = c.args.containers.now.now.places in
    let fits_1 : cost (cleared c.args.reach.global c.args.cells.now) ≤ (g.H.Readable.seen c.empty_level_if.new.rows).left = next_fits (emptied c.args.reach.hosts s c.args.cells.now levels.Host) (cleared c.args.reach.global c.args.cells.now) (g.H.Readable.seen c.args.rows.now).left (g.H.Readable.seen c.empty_level_if.new.rows).left c.requires.spare c.empty_level_if.ensures.stays.left in
    fits_1

pub empty_level_if-requires-clause-room : goal.empty_level_if-requires-clause-room
empty_level_if-requires-clause-room g c =
    let s = c.args.containers.now.now.places in
    first_fits (emptied c.args.reach.hosts s c.args.cells.now levels.Host) (cleared c.args.reach.global c.args.cells.now) c.args.log.now.room c.requires.room

pub clear_global_if-requires-clause-room : goal.clear_global_if-requires-clause-room
clear_global_if-requires-clause-room g c =
    let s = c.args.containers.now.now.places in
    let fits_1 : cost (cleared c.args.reach.global c.args.cells.now) ≤ c.empty_level_if.new.log.room = next_fits (emptied c.args.reach.hosts s c.args.cells.now levels.Host) (cleared c.args.reach.global c.args.cells.now) c.args.log.now.room c.empty_level_if.new.log.room c.requires.room c.empty_level_if.ensures.stays.room in
    fits_1

pub returns-clause-moved : goal.returns-clause-moved
returns-clause-moved g c =
    let s = c.args.containers.now.now.places in
    moved_then (emptied c.args.reach.hosts s c.args.cells.now levels.Host) (cleared c.args.reach.global c.args.cells.now) _ _ _ _ _ _ c.empty_level_if.ensures.moved c.clear_global_if.ensures.moved

pub returns-clause-stays : goal.returns-clause-stays
returns-clause-stays g c =
    let s = c.args.containers.now.now.places in
    stays_both (emptied c.args.reach.hosts s c.args.cells.now levels.Host) (cleared c.args.reach.global c.args.cells.now) _ _ _ _ _ _ c.empty_level_if.ensures.stays c.clear_global_if.ensures.stays
