use Rattle.pfs_check_reached.proofs.WalkFacts.{walked_first}
use Rattle.pfs_check_reached.proofs.reaching.Walk.new.Goals as goal

pub returns : goal.returns
returns c =
    let h = walked_first c.args.changes.now c.new.result.kept c.new-2.result.kept c.in_ok-ready.ready.items c.new.ensures c.in_ok-ready.ensures in
    record { sound = h.0; opened = h.1 }
