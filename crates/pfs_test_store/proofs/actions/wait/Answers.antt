use Rattle.pfs_test_store.proofs.actions.wait.Goals as goal

pub returns-clause-begun : goal.returns-clause-begun
returns-clause-begun c =
    let begun = c.requires.begun in
    let started = c.start.ensures.played.did.goes begun.0 begun.1 begun.2 in
    (begun.0, _, c.end-ended.ensures.played.did.goes begun.0 _ started, begun.3)
