use Rattle.std.proofs.Common.{◌∙◌, ap}
use Rattle.pfs_check_cut.specs.Sessions.{told_in}
use Rattle.pfs_check_cut.proofs.SessionSteps.{taken_other}
use Rattle.pfs_check_visits.proofs.sessions.take_track.Goals as goal

pub returns-in-Some-clause-own : goal.returns-in-Some-clause-own
returns-in-Some-clause-own c = ap told_in c.in-Some.ensures.value

pub returns-in-Some-clause-others : goal.returns-in-Some-clause-others
returns-in-Some-clause-others c = λ other apart.
    taken_other c.args.session other c.args.tracks.now c.remove.new.self c.in-Some.ensures.updates apart

pub returns-in-None-clause-own : goal.returns-in-None-clause-own
returns-in-None-clause-own c = c.new.ensures ∙ ap told_in c.in-None.ensures.value

pub returns-in-None-clause-others : goal.returns-in-None-clause-others
returns-in-None-clause-others c = λ other apart.
    taken_other c.args.session other c.args.tracks.now c.remove.new.self c.in-None.ensures.updates apart
