use Rattle.pfs_law_summaries.proofs.DigestPhases.{digested_law}
use Rattle.pfs_law_summaries.proofs.summaries.digested.Goals as goal

pub returns : goal.returns
returns c =
    digested_law c.kept.ensures c.orderly.ensures c.few_ended.ensures c.in_range.ensures c.digest_acted.ensures c.digest_added.ensures c.digest_summed.ensures
    (record { back = c.rows.ensures.back; found = c.rows.ensures.found }) c.table_names_differ.ensures
