use Rattle.pfs_journal.proofs.ReaderStops.{passed}
use Rattle.pfs_journal.proofs.parts.take_entry.Goals as goal

pub returns-in_err-push_entry-clause-stops : goal.returns-in_err-push_entry-clause-stops
returns-in_err-push_entry-clause-stops c = passed c.from_residual.result c.in_err-push_entry.field-0.0 _ _ c.from_residual.ensures (λ at none. absurd none) c.in_err-push_entry.ensures.memory
