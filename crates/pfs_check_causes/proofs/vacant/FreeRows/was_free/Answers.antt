use Rattle.pfs_check_floors.specs.KeyedGivens.{by_phase}
use Rattle.pfs_check_floors.specs.RowNames.{rows_shown}
use Rattle.pfs_model.specs.Chains.{release_of, row_change}
use Rattle.pfs_check_causes.proofs.FreeFacts.{free_tells}
use Rattle.pfs_check_causes.proofs.vacant.FreeRows.was_free.Goals as goal

pub returns : goal.returns
returns c = λ all earlier place known tops at.
    free_tells all earlier place c.args.seat c.args.row c.floor-floor.result c.greatest-top.result c.opens_free-opens.result c.is_vacant.result at
    (c.floor-floor.ensures row_change rows_shown all earlier place known.floors at) (c.greatest-top.ensures (by_phase release_of all) tops) c.opens_free-opens.ensures
    c.is_vacant.ensures
