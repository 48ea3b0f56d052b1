use Rattle.pfs_journal.proofs.ReaderStops.{passed}
use Rattle.pfs_journal.proofs.phases.take_block.Goals as goal

pub returns-in_err-push-clause-stops : goal.returns-in_err-push-clause-stops
returns-in_err-push-clause-stops c = passed c.from_residual-in_err-push.result c.in_err-push.field-0.0 _ _ c.from_residual-in_err-push.ensures (λ at none. absurd none) c.in_err-push.ensures.memory
