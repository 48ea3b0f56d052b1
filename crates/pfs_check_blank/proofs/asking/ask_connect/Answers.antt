use Rattle.pfs_check_blank.proofs.asking.ask_connect.Goals as goal

pub returns-clause-asked : goal.returns-clause-asked
returns-clause-asked c = c.asks.ensures.asked _ _ _ _ _ _ _ c.connect.ensures.worked

pub returns-clause-written : goal.returns-clause-written
returns-clause-written c = c.asks.ensures.words _ _ _ _ _ _ _ c.connect.ensures.worked
