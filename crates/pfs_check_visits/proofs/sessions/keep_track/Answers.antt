use Rattle.pfs_check_cut.proofs.SessionSteps.{kept_at}
use Rattle.pfs_check_visits.proofs.sessions.keep_track.Goals as goal

pub returns : goal.returns
returns c = λ other.
    kept_at c.args.session other c.args.tracks.now c.insert.new.self c.args.track c.in_ok-insert.ensures.updates
