use Rattle.std.proofs.Common.{◌∙◌}
use Rattle.pfs_check_contents.proofs.HeldSteps.{held_less}
use Rattle.pfs_check_contents.proofs.held.HeldAmounts.note.Goals as goal

pub returns-in-Add : goal.returns-in-Add
returns-in-Add c = λ given earlier place session entry own before.
    held_less given earlier place c.args.self.now (record { kept = c.forget.new.kept }) c.args.session c.in-Add.row c.in-Add.version session
    (entry ∙ c.in-Add.is) c.forget.ensures before
