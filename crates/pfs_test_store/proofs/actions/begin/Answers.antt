use Rattle.pfs_test_store.proofs.actions.begin.Goals as goal

pub returns-clause-begun : goal.returns-clause-begun
returns-clause-begun g c =
    let begun = c.requires.begun in
    let entered = c.enter.ensures.call begun.0 begun.1 begun.2 in
    (begun.0, _, c.new.ensures.call begun.0 _ entered.1.2)
