use Rattle.std.proofs.Common.{◌≤◌, ◌++◌}
use Rattle.pfs_levels.specs.Moves.{cost}
use Rattle.pfs_levels.proofs.MoveLists.{moved_then}
use Rattle.pfs_admin.specs.Truncations.{summary_asks}
use Rattle.pfs_admin.proofs.LevelMoves.{first_fits, next_fits, stays_both}
use Rattle.pfs_admin.proofs.summaries.empty_all.Goals as goal

pub empty_kind-requires-clause-spare : goal.empty_kind-requires-clause-spare
empty_kind-requires-clause-spare g c =
    let s = c.args.containers.now.now.places in
    first_fits (summary_asks s c.args.table c.args.cells.now.waits) ((summary_asks s c.args.table c.args.cells.now.stages) ++ ((summary_asks s c.args.table c.args.cells.now.statements) ++ (summary_asks s c.args.table c.args.cells.now.transactions))) (g.H.Readable.seen c.args.rows.now).left c.requires.spare

pub empty_kind-requires-2-clause-spare : goal.empty_kind-requires-2-clause-spare
empty_kind-requires-2-clause-spare g c =
    let s = c.args.containers.now.now.places in
    let fits_1 : cost ((summary_asks s c.args.table c.args.cells.now.stages) ++ ((summary_asks s c.args.table c.args.cells.now.statements) ++ (summary_asks s c.args.table c.args.cells.now.transactions))) ≤ (g.H.Readable.seen c.empty_kind.new.rows).left = next_fits (summary_asks s c.args.table c.args.cells.now.waits) ((summary_asks s c.args.table c.args.cells.now.stages) ++ ((summary_asks s c.args.table c.args.cells.now.statements) ++ (summary_asks s c.args.table c.args.cells.now.transactions))) (g.H.Readable.seen c.args.rows.now).left (g.H.Readable.seen c.empty_kind.new.rows).left c.requires.spare c.empty_kind.ensures.stays.left in
    first_fits (summary_asks s c.args.table c.args.cells.now.stages) ((summary_asks s c.args.table c.args.cells.now.statements) ++ (summary_asks s c.args.table c.args.cells.now.transactions)) (g.H.Readable.seen c.empty_kind.new.rows).left fits_1

pub empty_kind-requires-3-clause-spare : goal.empty_kind-requires-3-clause-spare
empty_kind-requires-3-clause-spare g c =
    let s = c.args.containers.now.now.places in
    let fits_1 : cost ((summary_asks s c.args.table c.args.cells.now.stages) ++ ((summary_asks s c.args.table c.args.cells.now.statements) ++ (summary_asks s c.args.table c.args.cells.now.transactions))) ≤ (g.H.Readable.seen c.empty_kind.new.rows).left = next_fits (summary_asks s c.args.table c.args.cells.now.waits) ((summary_asks s c.args.table c.args.cells.now.stages) ++ ((summary_asks s c.args.table c.args.cells.now.statements) ++ (summary_asks s c.args.table c.args.cells.now.transactions))) (g.H.Readable.seen c.args.rows.now).left (g.H.Readable.seen c.empty_kind.new.rows).left c.requires.spare c.empty_kind.ensures.stays.left in
    let fits_2 : cost ((summary_asks s c.args.table c.args.cells.now.statements) ++ (summary_asks s c.args.table c.args.cells.now.transactions)) ≤ (g.H.Readable.seen c.empty_kind-2.new.rows).left = next_fits (summary_asks s c.args.table c.args.cells.now.stages) ((summary_asks s c.args.table c.args.cells.now.statements) ++ (summary_asks s c.args.table c.args.cells.now.transactions)) (g.H.Readable.seen c.empty_kind.new.rows).left (g.H.Readable.seen c.empty_kind-2.new.rows).left fits_1 c.empty_kind-2.ensures.stays.left in
    first_fits (summary_asks s c.args.table c.args.cells.now.statements) (summary_asks s c.args.table c.args.cells.now.transactions) (g.H.Readable.seen c.empty_kind-2.new.rows).left fits_2

pub empty_kind-requires-4-clause-spare : goal.empty_kind-requires-4-clause-spare
empty_kind-requires-4-clause-spare g c =
    let s = c.args.containers.now.now.places in
    let fits_1 : cost ((summary_asks s c.args.table c.args.cells.now.stages) ++ ((summary_asks s c.args.table c.args.cells.now.statements) ++ (summary_asks s c.args.table c.args.cells.now.transactions))) ≤ (g.H.Readable.seen c.empty_kind.new.rows).left = next_fits (summary_asks s c.args.table c.args.cells.now.waits) ((summary_asks s c.args.table c.args.cells.now.stages) ++ ((summary_asks s c.args.table c.args.cells.now.statements) ++ (summary_asks s c.args.table c.args.cells.now.transactions))) (g.H.Readable.seen c.args.rows.now).left (g.H.Readable.seen c.empty_kind.new.rows).left c.requires.spare c.empty_kind.ensures.stays.left in
    let fits_2 : cost ((summary_asks s c.args.table c.args.cells.now.statements) ++ (summary_asks s c.args.table c.args.cells.now.transactions)) ≤ (g.H.Readable.seen c.empty_kind-2.new.rows).left = next_fits (summary_asks s c.args.table c.args.cells.now.stages) ((summary_asks s c.args.table c.args.cells.now.statements) ++ (summary_asks s c.args.table c.args.cells.now.transactions)) (g.H.Readable.seen c.empty_kind.new.rows).left (g.H.Readable.seen c.empty_kind-2.new.rows).left fits_1 c.empty_kind-2.ensures.stays.left in
    let fits_3 : cost (summary_asks s c.args.table c.args.cells.now.transactions) ≤ (g.H.Readable.seen c.empty_kind-3.new.rows).left = next_fits (summary_asks s c.args.table c.args.cells.now.statements) (summary_asks s c.args.table c.args.cells.now.transactions) (g.H.Readable.seen c.empty_kind-2.new.rows).left (g.H.Readable.seen c.empty_kind-3.new.rows).left fits_2 c.empty_kind-3.ensures.stays.left in
    fits_3

pub empty_kind-requires-clause-room : goal.empty_kind-requires-clause-room
empty_kind-requires-clause-room g c =
    let s = c.args.containers.now.now.places in
    first_fits (summary_asks s c.args.table c.args.cells.now.waits) ((summary_asks s c.args.table c.args.cells.now.stages) ++ ((summary_asks s c.args.table c.args.cells.now.statements) ++ (summary_asks s c.args.table c.args.cells.now.transactions))) c.args.log.now.room c.requires.room

pub empty_kind-requires-2-clause-room : goal.empty_kind-requires-2-clause-room
empty_kind-requires-2-clause-room g c =
    let s = c.args.containers.now.now.places in
    let fits_1 : cost ((summary_asks s c.args.table c.args.cells.now.stages) ++ ((summary_asks s c.args.table c.args.cells.now.statements) ++ (summary_asks s c.args.table c.args.cells.now.transactions))) ≤ c.empty_kind.new.log.room = next_fits (summary_asks s c.args.table c.args.cells.now.waits) ((summary_asks s c.args.table c.args.cells.now.stages) ++ ((summary_asks s c.args.table c.args.cells.now.statements) ++ (summary_asks s c.args.table c.args.cells.now.transactions))) c.args.log.now.room c.empty_kind.new.log.room c.requires.room c.empty_kind.ensures.stays.room in
    first_fits (summary_asks s c.args.table c.args.cells.now.stages) ((summary_asks s c.args.table c.args.cells.now.statements) ++ (summary_asks s c.args.table c.args.cells.now.transactions)) c.empty_kind.new.log.room fits_1

pub empty_kind-requires-3-clause-room : goal.empty_kind-requires-3-clause-room
empty_kind-requires-3-clause-room g c =
    let s = c.args.containers.now.now.places in
    let fits_1 : cost ((summary_asks s c.args.table c.args.cells.now.stages) ++ ((summary_asks s c.args.table c.args.cells.now.statements) ++ (summary_asks s c.args.table c.args.cells.now.transactions))) ≤ c.empty_kind.new.log.room = next_fits (summary_asks s c.args.table c.args.cells.now.waits) ((summary_asks s c.args.table c.args.cells.now.stages) ++ ((summary_asks s c.args.table c.args.cells.now.statements) ++ (summary_asks s c.args.table c.args.cells.now.transactions))) c.args.log.now.room c.empty_kind.new.log.room c.requires.room c.empty_kind.ensures.stays.room in
    let fits_2 : cost ((summary_asks s c.args.table c.args.cells.now.statements) ++ (summary_asks s c.args.table c.args.cells.now.transactions)) ≤ c.empty_kind-2.new.log.room = next_fits (summary_asks s c.args.table c.args.cells.now.stages) ((summary_asks s c.args.table c.args.cells.now.statements) ++ (summary_asks s c.args.table c.args.cells.now.transactions)) c.empty_kind.new.log.room c.empty_kind-2.new.log.room fits_1 c.empty_kind-2.ensures.stays.room in
    first_fits (summary_asks s c.args.table c.args.cells.now.statements) (summary_asks s c.args.table c.args.cells.now.transactions) c.empty_kind-2.new.log.room fits_2

pub empty_kind-requires-4-clause-room : goal.empty_kind-requires-4-clause-room
empty_kind-requires-4-clause-room g c =
    let s = c.args.containers.now.now.places in
    let fits_1 : cost ((summary_asks s c.args.table c.args.cells.now.stages) ++ ((summary_asks s c.args.table c.args.cells.now.statements) ++ (summary_asks s c.args.table c.args.cells.now.transactions))) ≤ c.empty_kind.new.log.room = next_fits (summary_asks s c.args.table c.args.cells.now.waits) ((summary_asks s c.args.table c.args.cells.now.stages) ++ ((summary_asks s c.args.table c.args.cells.now.statements) ++ (summary_asks s c.args.table c.args.cells.now.transactions))) c.args.log.now.room c.empty_kind.new.log.room c.requires.room c.empty_kind.ensures.stays.room in
    let fits_2 : cost ((summary_asks s c.args.table c.args.cells.now.statements) ++ (summary_asks s c.args.table c.args.cells.now.transactions)) ≤ c.empty_kind-2.new.log.room = next_fits (summary_asks s c.args.table c.args.cells.now.stages) ((summary_asks s c.args.table c.args.cells.now.statements) ++ (summary_asks s c.args.table c.args.cells.now.transactions)) c.empty_kind.new.log.room c.empty_kind-2.new.log.room fits_1 c.empty_kind-2.ensures.stays.room in
    let fits_3 : cost (summary_asks s c.args.table c.args.cells.now.transactions) ≤ c.empty_kind-3.new.log.room = next_fits (summary_asks s c.args.table c.args.cells.now.statements) (summary_asks s c.args.table c.args.cells.now.transactions) c.empty_kind-2.new.log.room c.empty_kind-3.new.log.room fits_2 c.empty_kind-3.ensures.stays.room in
    fits_3

pub returns-clause-moved : goal.returns-clause-moved
returns-clause-moved g c =
    let s = c.args.containers.now.now.places in
    moved_then (summary_asks s c.args.table c.args.cells.now.waits) ((summary_asks s c.args.table c.args.cells.now.stages) ++ ((summary_asks s c.args.table c.args.cells.now.statements) ++ (summary_asks s c.args.table c.args.cells.now.transactions))) _ _ _ _ _ _ c.empty_kind.ensures.moved (moved_then (summary_asks s c.args.table c.args.cells.now.stages) ((summary_asks s c.args.table c.args.cells.now.statements) ++ (summary_asks s c.args.table c.args.cells.now.transactions)) _ _ _ _ _ _ c.empty_kind-2.ensures.moved (moved_then (summary_asks s c.args.table c.args.cells.now.statements) (summary_asks s c.args.table c.args.cells.now.transactions) _ _ _ _ _ _ c.empty_kind-3.ensures.moved c.empty_kind-4.ensures.moved))

pub returns-clause-stays : goal.returns-clause-stays
returns-clause-stays g c =
    let s = c.args.containers.now.now.places in
    stays_both (summary_asks s c.args.table c.args.cells.now.waits) ((summary_asks s c.args.table c.args.cells.now.stages) ++ ((summary_asks s c.args.table c.args.cells.now.statements) ++ (summary_asks s c.args.table c.args.cells.now.transactions))) _ _ _ _ _ _ c.empty_kind.ensures.stays (stays_both (summary_asks s c.args.table c.args.cells.now.stages) ((summary_asks s c.args.table c.args.cells.now.statements) ++ (summary_asks s c.args.table c.args.cells.now.transactions)) _ _ _ _ _ _ c.empty_kind-2.ensures.stays (stays_both (summary_asks s c.args.table c.args.cells.now.statements) (summary_asks s c.args.table c.args.cells.now.transactions) _ _ _ _ _ _ c.empty_kind-3.ensures.stays c.empty_kind-4.ensures.stays))
