use Rattle.pfs_check_verdicts.proofs.VerdictFacts.{seen_parts}
use Rattle.pfs_check_verdicts.proofs.deciding.seen_by.Goals as goal

pub returns : goal.returns
returns c = λ given gives.
    seen_parts given c.args.slot c.args.event.now
    (record { consumers = c.seen.result; thread = c.seen-2.result; class = c.seen-3.result; table = c.seen-4.result })
    (c.seen.ensures given gives) (c.seen-2.ensures given gives) (c.seen-3.ensures given gives) (c.seen-4.ensures given gives)
