use Rattle.pfs_law_load.proofs.OneText.{text_law}
use Rattle.pfs_law_load.proofs.laws.one_text.Goals as goal

pub returns : goal.returns
returns c = text_law c.generated_phases.ensures c.exact.ensures c.second_phase.ensures c.same_rows.ensures
