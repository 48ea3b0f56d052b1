use Rattle.pfs_check_faults.proofs.FaultExamples.{worked_faults, worked_shapes}
use Rattle.pfs_check_faults.proofs.laws.worked.Goals as goal

pub returns-clause-shapes : goal.returns-clause-shapes
returns-clause-shapes c = worked_shapes

pub returns-clause-faults : goal.returns-clause-faults
returns-clause-faults c = worked_faults
