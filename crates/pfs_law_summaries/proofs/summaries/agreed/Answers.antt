use Rattle.pfs_law_summaries.proofs.JournalCounts.{agreed_law}
use Rattle.pfs_law_summaries.proofs.summaries.agreed.Goals as goal

pub returns : goal.returns
returns c =
    agreed_law c.rows.ensures.back c.rows.ensures.found c.rows.ensures.none c.acted.ensures c.added.ensures
