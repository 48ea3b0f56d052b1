use Rattle.std.proofs.Common.{arith}
use Rattle.pfs_admin.proofs.TruncationCosts.{AreFew, are_few, reach_cost}
use Rattle.pfs_admin.proofs.charges.reach_cost.Goals as goal

pub overflow_add-result : goal.overflow_add-result
overflow_add-result c =
    let few : AreFew c.args.containers.now.now.places c.args.reach c.args.cells.now = are_few c.args.containers.now.now.places c.args.reach c.args.cells.now in
    omega (arith, few.threads, few.accounts, few.users, few.hosts, few.global, c.level_cost-threads.ensures, c.level_cost_if-accounts.ensures, c.requires)

pub overflow_add-result-2 : goal.overflow_add-result-2
overflow_add-result-2 c =
    let few : AreFew c.args.containers.now.now.places c.args.reach c.args.cells.now = are_few c.args.containers.now.now.places c.args.reach c.args.cells.now in
    omega (arith, few.threads, few.accounts, few.users, few.hosts, few.global, c.level_cost-threads.ensures, c.level_cost_if-accounts.ensures, c.level_cost_if-users.ensures, c.level_cost_if-hosts.ensures, c.global_cost.ensures, c.requires)

pub overflow_add-result-3 : goal.overflow_add-result-3
overflow_add-result-3 c =
    let few : AreFew c.args.containers.now.now.places c.args.reach c.args.cells.now = are_few c.args.containers.now.now.places c.args.reach c.args.cells.now in
    omega (arith, few.threads, few.accounts, few.users, few.hosts, few.global, c.level_cost-threads.ensures, c.level_cost_if-accounts.ensures, c.level_cost_if-users.ensures, c.level_cost_if-hosts.ensures, c.global_cost.ensures, c.requires)

pub overflow_add-result-4 : goal.overflow_add-result-4
overflow_add-result-4 c =
    let few : AreFew c.args.containers.now.now.places c.args.reach c.args.cells.now = are_few c.args.containers.now.now.places c.args.reach c.args.cells.now in
    omega (arith, few.threads, few.accounts, few.users, few.hosts, few.global, c.level_cost-threads.ensures, c.level_cost_if-accounts.ensures, c.level_cost_if-users.ensures, c.level_cost_if-hosts.ensures, c.global_cost.ensures, c.requires)

pub returns-clause-cost : goal.returns-clause-cost
returns-clause-cost c =
    omega (arith, reach_cost c.args.containers.now.now.places c.args.reach c.args.cells.now, c.level_cost-threads.ensures, c.level_cost_if-accounts.ensures, c.level_cost_if-users.ensures, c.level_cost_if-hosts.ensures, c.global_cost.ensures)

pub returns-clause-few : goal.returns-clause-few
returns-clause-few c =
    let few : AreFew c.args.containers.now.now.places c.args.reach c.args.cells.now = are_few c.args.containers.now.now.places c.args.reach c.args.cells.now in
    omega (arith, few.threads, few.accounts, few.users, few.hosts, few.global, c.level_cost-threads.ensures, c.level_cost_if-accounts.ensures, c.level_cost_if-users.ensures, c.level_cost_if-hosts.ensures, c.global_cost.ensures)
