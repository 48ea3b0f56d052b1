use Rattle.pfs_law_summaries.proofs.RunSummaries.{counted_law}
use Rattle.pfs_law_summaries.proofs.summaries.counted.Goals as goal

pub returns : goal.returns
returns c =
    counted_law c.kept.ensures c.orderly.ensures c.named.ensures c.few.ensures c.in_range.ensures c.summed.ensures c.agreed.ensures c.told.ensures
    (record { threads = c.infos_return.ensures.threads; accounts = c.infos_return.ensures.accounts; names = c.infos_return.ensures.names })
    (record { back = c.rows.ensures.back; found = c.rows.ensures.found }) (record { ascending = c.rows-2.ensures.ascending; given = c.rows-2.ensures.given }) c.table_names_differ.ensures
