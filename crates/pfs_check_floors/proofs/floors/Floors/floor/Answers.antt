use Rattle.std.proofs.Common.{◌∙◌, ap}
use Rattle.std.specs.Prelude.{unwrap_or}
use Rattle.pfs_check_floors.specs.KeyedGivens.{by_action}
use Rattle.pfs_check_floors.proofs.FloorFacts.{acted_is, floor_is}
use Rattle.pfs_check_floors.proofs.floors.Floors.floor.Goals as goal

pub returns : goal.returns
returns c = λ given shown all earlier place known at.
    c.greatest_of.ensures
    ∙ floor_is given shown all earlier place c.args.seat c.args.row c.start-begun.result c.known_at-seen.result c.or_none-acted.result at
    (c.start-begun.ensures given shown all earlier known)
    (c.known_at-seen.ensures ∙ known.known (record { session = c.args.seat.session; row = c.args.row }))
    (c.or_none-acted.ensures ∙ ap (λ o. unwrap_or o 0) (c.greatest.ensures (by_action given all) known.actions)
    ∙ acted_is given all c.args.row c.args.seat.done)
