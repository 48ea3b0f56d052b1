use Rattle.pfs_exec.proofs.InsertedRows.{of_the_text}
use Rattle.pfs_exec.proofs.texts.rows_are_of_the_text.Goals as goal

pub returns : goal.returns
returns c = of_the_text
