use Rattle.pfs_check_faults.proofs.RuleOrder.{first_rule, last_rule, next_rule}
use Rattle.pfs_check_faults.proofs.laws.order.Goals as goal

pub returns-clause-first : goal.returns-clause-first
returns-clause-first c = first_rule

pub returns-clause-next : goal.returns-clause-next
returns-clause-next c = next_rule

pub returns-clause-last : goal.returns-clause-last
returns-clause-last c = last_rule
