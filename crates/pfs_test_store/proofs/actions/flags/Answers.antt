use Rattle.pfs_test_store.proofs.actions.flags.Goals as goal

pub returns-clause-begun : goal.returns-clause-begun
returns-clause-begun c =
    let begun = c.requires.begun in
    (begun.0, _, c.load.ensures.call begun.0 begun.1 begun.2, begun.3)
