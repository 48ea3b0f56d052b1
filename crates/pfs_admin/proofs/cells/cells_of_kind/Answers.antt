use Rattle.std.proofs.Common.{◌++◌, [], ◌∷◌, cond, ap, sym, ◌∙◌, arith}
use Rattle.std.specs.Prelude.{filter}
use Rattle.std.specs.List.{range_with_len}
use Rattle.pfs_readsets.specs.TablePlaces.{is_kind_cell}
use Rattle.pfs_admin.proofs.KindCells.{chosen_next, chosen_whole}
use Rattle.pfs_admin.proofs.cells.cells_of_kind.Goals as goal

pub loop-cell-preserved : goal.loop-cell-preserved
loop-cell-preserved c =
    let p = is_kind_cell c.args.classes.now.classes c.args.kind in
    let i = c.loop-cell.cell in
    c.in_ok-push_if.ensures
    ∙ (ap (λ z. z ++ cond c.is_kind_cell-due.result (i ∷ []) []) c.loop-cell.invariant
    ∙ (ap (λ z. filter p (range_with_len 0 i) ++ cond z (i ∷ []) []) c.is_kind_cell-due.ensures ∙ sym (chosen_next p i)))

pub returns : goal.returns
returns c = c.loop-cell.invariant ∙ chosen_whole c.args.classes.now c.args.kind c.loop-cell.cell (omega arith)
