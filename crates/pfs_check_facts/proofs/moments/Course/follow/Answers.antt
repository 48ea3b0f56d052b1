use Rattle.std.proofs.Common.{ap, ◌+◌, ◌%◌, ◌^◌}
use Rattle.pfs_check_facts.proofs.FollowSteps.{followed}
use Rattle.pfs_check_facts.proofs.moments.Course.follow.Goals as goal

pub returns : goal.returns
returns c = λ lines are.
    followed lines c.args.said.now c.args.self.now
    (record { clock = (c.args.self.now.clock + c.time_of.result) % 2 ^ 64; moments = c.put_moment.new.moments }) are c.in_ok-put_moment.ensures
    (ap (λ n. (c.args.self.now.clock + n) % 2 ^ 64) c.time_of.ensures)
