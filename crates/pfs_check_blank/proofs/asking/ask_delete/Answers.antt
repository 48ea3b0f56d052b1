use Rattle.pfs_check_blank.proofs.asking.ask_delete.Goals as goal

pub returns-clause-asked : goal.returns-clause-asked
returns-clause-asked c = c.asks.ensures.asked _ _ _ _ _ _ _ c.delete.ensures.worked
