use Rattle.pfs_model.specs.Chains.{row_change}
use Rattle.pfs_check_floors.specs.RowNames.{rows_shown}
use Rattle.pfs_check_floors.proofs.RowFacts.{seen_tells}
use Rattle.pfs_check_floors.proofs.rows.RowFloors.is_seen_well.Goals as goal

pub returns : goal.returns
returns c = λ all earlier place known at.
    seen_tells all earlier place c.args.row c.args.version c.is_seen_well-between.result c.is_above_releases-above.result c.both.result
    (c.is_seen_well-between.ensures row_change rows_shown all earlier place known.floors at)
    (c.is_above_releases-above.ensures all earlier place known at) c.both.ensures
