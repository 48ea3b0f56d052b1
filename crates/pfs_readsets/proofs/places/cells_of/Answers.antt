use Rattle.std.proofs.Common.{◌∙◌, arith, length-set, get_or-set_same, get_or-set_other, below_more, false}
use Rattle.pfs_readsets.proofs.places.cells_of.Goals as goal

pub loop-cell-preserved : goal.loop-cell-preserved
loop-cell-preserved c =
    let cells = c.loop-cell.cells in
    let at = c.loop-cell.cell in
    let long = c.loop-cell.invariant.0 in (
      length-set cells at c.has_cell.result ∙ long,
      below_more _ _
          (λ k low. get_or-set_other cells at k c.has_cell.result false (λ e. absurd (omega (arith, e))) ∙ c.loop-cell.invariant.1 k low)
          (get_or-set_same cells at c.has_cell.result false (omega (arith, long)) ∙ c.has_cell.ensures),
    )
