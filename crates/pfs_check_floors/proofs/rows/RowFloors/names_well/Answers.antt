use Rattle.std.proofs.Common.{subst}
use Rattle.pfs_model.specs.Floors.{NamingsKeep}
use Rattle.pfs_check_floors.specs.KnownFloors.{Tells}
use Rattle.pfs_check_floors.proofs.rows.RowFloors.names_well.Goals as goal

pub returns : goal.returns
returns c = λ all earlier place known at.
    subst (λ z. Tells (NamingsKeep all earlier place z) c.keeps.result) c.names_in-names.ensures
    (c.keeps.ensures all earlier place known at)
