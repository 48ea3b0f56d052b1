use Rattle.pfs_check_brought.proofs.DueFacts.{at_end}
use Rattle.pfs_check_brought.proofs.offers.is_offered_at_end.Goals as goal

pub returns : goal.returns
returns c = λ flags ring gives consumer.
    let ended = c.args.ended.now in
    at_end flags ring ended.slot ended.event ended.consumers ended.thread c.args.consumer c.is_offered_current-current.result c.acts-acts.result
    c.has_history-history.result c.both.result c.both-2.result c.consumers_seen.result c.seen.result
    (c.is_offered_current-current.ensures flags ended.slot gives) c.acts-acts.ensures (c.consumers_seen.ensures flags gives) consumer
    c.has_history-history.ensures (c.seen.ensures flags gives) c.both.ensures c.both-2.ensures
