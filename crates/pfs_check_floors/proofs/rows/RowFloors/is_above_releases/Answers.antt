use Rattle.pfs_model.specs.Chains.{release_of, row_change}
use Rattle.pfs_check_floors.specs.KeyedGivens.{by_action}
use Rattle.pfs_check_floors.specs.RowNames.{rows_shown}
use Rattle.pfs_check_floors.proofs.RowFacts.{clear_tells}
use Rattle.pfs_check_floors.proofs.rows.RowFloors.is_above_releases.Goals as goal

pub returns : goal.returns
returns c = λ all earlier place known at.
    let begun = c.start-begun.ensures row_change rows_shown all earlier known.floors in
    clear_tells all place c.args.seat c.args.row c.args.version c.start-begun.result c.greatest-top.result c.stood_free-free.result
    c.is_clear.result at (c.greatest-top.ensures (by_action release_of all) known.releases.actions) begun
    (c.stood_free-free.ensures all known.releases.freed begun) c.is_clear.ensures
