use Rattle.pfs_check_cut.proofs.SessionSteps.{kept_at}
use Rattle.pfs_check_cut.proofs.sessions.keep_trail.Goals as goal

pub returns : goal.returns
returns c = λ other.
    kept_at c.args.session other c.args.trails.now c.insert.new.self c.args.trail c.in_ok-insert.ensures.updates
