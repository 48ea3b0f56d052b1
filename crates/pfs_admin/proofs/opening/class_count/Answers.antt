use Rattle.std.proofs.Common.{rules, ◌≤◌, length, arith}
use Rattle.pfs_admin.proofs.OpeningState.{small_cells, few_cells}
use Rattle.pfs_admin.proofs.opening.class_count.Goals as goal

pub returns-clause-small : goal.returns-clause-small
returns-clause-small c =
    let few : length c.args.classes.now.classes ≤ 62 = search rules in
    small_cells 0 (length c.args.classes.now.classes) (omega (arith, few))

pub returns-clause-few : goal.returns-clause-few
returns-clause-few c =
    let few : length c.args.classes.now.classes ≤ 62 = search rules in
    omega (arith, few, few_cells 0 (length c.args.classes.now.classes))
