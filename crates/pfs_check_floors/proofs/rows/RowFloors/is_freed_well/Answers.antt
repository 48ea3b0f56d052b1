use Rattle.pfs_model.specs.Chains.{row_change}
use Rattle.pfs_check_floors.specs.RowNames.{rows_shown}
use Rattle.pfs_check_floors.proofs.RowFacts.{freed_tells}
use Rattle.pfs_check_floors.proofs.rows.RowFloors.is_freed_well.Goals as goal

pub returns : goal.returns
returns c = λ all earlier place known at.
    freed_tells all earlier place c.args.row c.args.version c.is_seen_well.result
    (c.is_seen_well.ensures row_change rows_shown all earlier place known.floors at)
