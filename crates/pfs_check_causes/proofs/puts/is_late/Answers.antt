use Rattle.pfs_model.specs.Chains.{row_change}
use Rattle.pfs_check_floors.specs.RowNames.{rows_shown}
use Rattle.pfs_check_causes.proofs.PutFacts.{late_tells}
use Rattle.pfs_check_causes.proofs.puts.is_late.Goals as goal

pub returns : goal.returns
returns c = λ all earlier place known put rises at.
    late_tells all earlier place c.args.put.row c.args.put.ticket c.args.greater c.args.seat.phase c.args.seat.session c.floor-floor.result
    c.is_put-found.result c.is_place_of-own.result c.is_place_of-same.result c.is_above.result at.phase at.session
    (c.floor-floor.ensures row_change rows_shown all earlier place known.floors at) (c.is_put-found.ensures all put rises)
    c.is_place_of-own.ensures c.is_place_of-same.ensures c.is_above.ensures
