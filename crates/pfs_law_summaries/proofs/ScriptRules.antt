-- The rules of a run of a script are those that conservation goes by.
use Rattle.pfs_law_summaries.specs.OrderlyRuns.{KeptLaw}

pub kept_law : KeptLaw
kept_law setting phases report run =
    record { rules = run.rules; labelled = run.labelled; brought = run.brought }
