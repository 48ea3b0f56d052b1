use Rattle.std.proofs.Common.{◌∙◌, ap, sym}
use Rattle.pfs_levels.specs.Moves.{cost}
use Rattle.pfs_admin.specs.Truncations.{place_asks}
use Rattle.pfs_admin.proofs.TruncationCosts.{cells_cost}
use Rattle.pfs_admin.proofs.charges.place_cost.Goals as goal

pub returns-in-Some : goal.returns-in-Some
returns-in-Some c =
    cells_cost c.in-Some.source c.cell_cost.result c.args.cells.now c.cell_cost.ensures.takes
    ∙ ap (λ z. cost (place_asks c.args.cells.now z)) (sym c.in-Some.is)
