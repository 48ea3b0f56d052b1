use Rattle.pfs_top.specs.Commands.{HasFault, HasBadText}
use Rattle.pfs_top.proofs.Outcomes.{tells_as, fault_read}
use Rattle.pfs_top.proofs.scripts.script_in.Goals as goal

pub returns-in-Err-Bad-clause-told : goal.returns-in-Err-Bad-clause-told
returns-in-Err-Bad-clause-told g c =
    let first = rw c.in-Err-Bad.field-0-is at c.in-Err-Bad.ensures in
    tells_as (HasFault c.in-Err-Bad.line c.in-Err-Bad.reason) (HasBadText c.args.bytes.now) _ _ _ c.complain.result (fault_read c.args.bytes.now c.in-Err-Bad.line c.in-Err-Bad.reason first) c.complain.ensures
