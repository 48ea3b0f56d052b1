use Rattle.std.proofs.Common.{◌++◌, ap, length, sym, subst, option_to_list, Option}
use Rattle.pfs_admin.specs.declared.changes.Change.{Change}
use Rattle.pfs_check_changes.specs.ActionNumbers.{StandFor}
use Rattle.pfs_check_changes.proofs.StandingNumbers.{stand_more}
use Rattle.pfs_check_changes.proofs.actions.put_action.Goals as goal

pub returns-in_ok-push-in-Some-2-clause-own : goal.returns-in_ok-push-in-Some-2-clause-own
returns-in_ok-push-in-Some-2-clause-own c = λ made stand.
    subst (λ (z : Option Change). StandFor c.push-in-Some.new.self.items c.push.new.self.items (made ++ option_to_list z)) (sym c.in-Some.is)
    (stand_more c.args.changes.now.items c.push-in-Some.new.self.items c.args.numbers.now.items c.push.new.self.items made c.in-Some.change _
    (ap length c.as_slice.ensures.value) c.in_ok-push-in-Some-2.ensures.items c.in_ok-push-in-Some.ensures.items stand)
