use Rattle.pfs_check_finals.proofs.LossCounts.{losses_both}
use Rattle.pfs_check_finals.proofs.losing.Losses.plus.Goals as goal

pub returns : goal.returns
returns c = λ some others p q.
    losses_both c.args.self c.args.more _ some others p q
    (λ i. record {
      actions = c.in_ok-actions.ensures i;
      digests = c.in_ok-digests.ensures i;
      statements = c.in_ok-statements.ensures i;
      waits = c.in_ok-waits.ensures i;
    })
