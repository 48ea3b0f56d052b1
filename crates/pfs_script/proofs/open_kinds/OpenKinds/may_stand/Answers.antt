use Rattle.std.proofs.Common.{inl, inr}
use Rattle.pfs_script.proofs.OpenKinds.{end_may}
use Rattle.pfs_script.proofs.open_kinds.OpenKinds.may_stand.Goals as goal

pub returns-in-End : goal.returns-in-End
returns-in-End c =
    let may = end_may c.args.self.now.waits c.args.self.now.has_stage c.args.self.now.statements c.args.self.now.has_transaction in
    elim c.in-End.is [
      | inl e ↦ rw (c.is_empty-in-End.ensures.value, e) may
      | inr w ↦ rw (c.is_empty-in-End.ensures.value, w.1) may
    ]
