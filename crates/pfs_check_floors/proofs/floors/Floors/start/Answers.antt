use Rattle.std.proofs.Common.{◌∙◌, ap, arith}
use Rattle.std.specs.Prelude.{unwrap_or}
use Rattle.pfs_check_floors.specs.KeyedGivens.{by_phase}
use Rattle.pfs_check_floors.proofs.FloorFacts.{first_start, start_is}
use Rattle.pfs_check_floors.proofs.floors.Floors.start.Goals as goal

pub returns-then-phase-eq0 : goal.returns-then-phase-eq0
returns-then-phase-eq0 c = λ given shown all earlier known. first_start given all c.args.row c.args.phase c.if-phase-eq0.true

pub returns : goal.returns
returns c = λ given shown all earlier known.
    c.or_none.ensures ∙ ap (λ o. unwrap_or o 0) (c.greatest.ensures (by_phase given all) known.phases)
    ∙ start_is given all c.args.row c.args.phase (omega (arith, c.if-phase-eq0.false)) known.chained
