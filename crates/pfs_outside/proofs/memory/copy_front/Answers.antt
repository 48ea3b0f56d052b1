use Rattle.std.proofs.Common.{arith}
use Rattle.pfs_outside.proofs.SourceReads.{copied}
use Rattle.pfs_outside.proofs.memory.copy_front.Goals as goal

pub returns-clause-bytes : goal.returns-clause-bytes
returns-clause-bytes c = copied c.args.bytes.now _ _ c.args.at _ _ c.copy_from_slice.ensures.after (omega arith) (omega arith)
