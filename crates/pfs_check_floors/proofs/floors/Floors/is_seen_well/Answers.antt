use Rattle.std.proofs.Common.{◌∙◌, ap}
use Rattle.pfs_check_floors.specs.KnownFloors.{floor_by, had_by}
use Rattle.pfs_check_floors.proofs.FloorFacts.{between}
use Rattle.pfs_check_floors.proofs.floors.Floors.is_seen_well.Goals as goal

pub returns : goal.returns
returns c = λ given shown all earlier place known at.
    between c.floor-low.result c.args.version c.had-high.result (floor_by given shown all earlier place c.args.row)
    (had_by given all place.phase c.args.row) c.is_between.result
    (c.floor-low.ensures given shown all earlier place known at)
    (c.had-high.ensures given shown all earlier known ∙ ap (λ z. had_by given all z c.args.row) at.phase) c.is_between.ensures
