use Rattle.std.proofs.Common.{◌-◌, sym}
use Rattle.pfs_check_changes.specs.ActionNumbers.{numbers_at}
use Rattle.pfs_check_changes.proofs.StandingNumbers.{change_missing}
use Rattle.pfs_check_changes.proofs.actions.Actions.change.Goals as goal

pub returns-in-None : goal.returns-in-None
returns-in-None c = λ phases are.
    change_missing c.args.self.now.changes.items (numbers_at c.args.self.now.numbers c.args.label.session) _ (c.args.label.line - 1)
    (are c.args.label.session) (sym c.in-None.ensures)
