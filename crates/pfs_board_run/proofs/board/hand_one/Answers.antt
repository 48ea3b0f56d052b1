use Rattle.std.proofs.Common.{◌≤◌, List, length, sym, subst, arith}
use Rattle.pfs_play.specs.Errands.{actions_on}
use Rattle.pfs_script.specs.Marks.{written_out}
use Rattle.pfs_script.specs.declared.blocks.BlockLine.{BlockLine}
use Rattle.pfs_board_run.proofs.board.hand_one.Goals as goal

pub written_cost-requires : goal.written_cost-requires
written_cost-requires g c = record { short = subst (λ (l : List BlockLine). length (written_out l) ≤ 200000) (sym c.as_slice.ensures) c.requires.short }

pub overflow_add-cost : goal.overflow_add-cost
overflow_add-cost g c =
    let short = subst (λ (l : List BlockLine). length (written_out l) ≤ 200000) (sym c.as_slice.ensures) c.requires.short in
    let few = subst (λ (l : List BlockLine). actions_on (written_out l) ≤ 200000) (sym c.as_slice.ensures) c.requires.few in
    omega (arith, c.in_ok-cost.ensures.small, short, few)
