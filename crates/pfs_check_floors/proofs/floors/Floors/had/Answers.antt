use Rattle.std.proofs.Common.{◌∙◌, ap}
use Rattle.std.specs.Prelude.{unwrap_or}
use Rattle.pfs_check_floors.specs.KeyedGivens.{by_phase}
use Rattle.pfs_check_floors.proofs.FloorFacts.{had_is}
use Rattle.pfs_check_floors.proofs.floors.Floors.had.Goals as goal

pub returns : goal.returns
returns c = λ given shown all earlier known.
    c.or_none.ensures ∙ ap (λ o. unwrap_or o 0) (c.greatest.ensures (by_phase given all) known.phases)
    ∙ had_is given all c.args.row c.args.phase known.chained
