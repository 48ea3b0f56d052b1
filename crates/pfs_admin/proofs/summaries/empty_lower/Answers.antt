use Rattle.std.proofs.Common.{◌≤◌}
use Rattle.pfs_levels.specs.declared.places.Level.TheVariants as levels
use Rattle.pfs_levels.specs.Moves.{cost}
use Rattle.pfs_levels.proofs.MoveLists.{moved_then}
use Rattle.pfs_admin.specs.Truncations.{level_asks, emptied}
use Rattle.pfs_admin.proofs.LevelMoves.{first_fits, next_fits, stays_both}
use Rattle.pfs_admin.proofs.summaries.empty_lower.Goals as goal

pub empty_level-requires-clause-spare : goal.empty_level-requires-clause-spare
empty_level-requires-clause-spare g c =
    let s = c.args.containers.now.now.places in
    first_fits (level_asks s c.args.cells.now levels.Thread) (emptied c.args.reach.accounts s c.args.cells.now levels.Account) (g.H.Readable.seen c.args.rows.now).left c.requires.spare

pub empty_level_if-requires-clause-spare : goal.empty_level_if-requires-clause-spare
empty_level_if-requires-clause-spare g c =
    let s = c.args.containers.now.now.places in
    let fits_1 : cost (emptied c.args.reach.accounts s c.args.cells.now levels.Account) ≤ (g.H.Readable.seen c.empty_level.new.rows).left = next_fits (level_asks s c.args.cells.now levels.Thread) (emptied c.args.reach.accounts s c.args.cells.now levels.Account) (g.H.Readable.seen c.args.rows.now).left (g.H.Readable.seen c.empty_level.new.rows).left c.requires.spare c.empty_level.ensures.stays.left in
    fits_1

pub empty_level-requires-clause-room : goal.empty_level-requires-clause-room
empty_level-requires-clause-room g c =
    let s = c.args.containers.now.now.places in
    first_fits (level_asks s c.args.cells.now levels.Thread) (emptied c.args.reach.accounts s c.args.cells.now levels.Account) c.args.log.now.room c.requires.room

pub empty_level_if-requires-clause-room : goal.empty_level_if-requires-clause-room
empty_level_if-requires-clause-room g c =
    let s = c.args.containers.now.now.places in
    let fits_1 : cost (emptied c.args.reach.accounts s c.args.cells.now levels.Account) ≤ c.empty_level.new.log.room = next_fits (level_asks s c.args.cells.now levels.Thread) (emptied c.args.reach.accounts s c.args.cells.now levels.Account) c.args.log.now.room c.empty_level.new.log.room c.requires.room c.empty_level.ensures.stays.room in
    fits_1

pub returns-clause-moved : goal.returns-clause-moved
returns-clause-moved g c =
    let s = c.args.containers.now.now.places in
    moved_then (level_asks s c.args.cells.now levels.Thread) (emptied c.args.reach.accounts s c.args.cells.now levels.Account) _ _ _ _ _ _ c.empty_level.ensures.moved c.empty_level_if.ensures.moved

pub returns-clause-stays : goal.returns-clause-stays
returns-clause-stays g c =
    let s = c.args.containers.now.now.places in
    stays_both (level_asks s c.args.cells.now levels.Thread) (emptied c.args.reach.accounts s c.args.cells.now levels.Account) _ _ _ _ _ _ c.empty_level.ensures.stays c.empty_level_if.ensures.stays
