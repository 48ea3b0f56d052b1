use Rattle.pfs_session.proofs.EventAnswers.{stage_says}
use Rattle.pfs_session.proofs.EventSteps.{stage_from}
use Rattle.pfs_session.proofs.session.Session.stage.Goals as goal

pub returns-in-Some-clause-played : goal.returns-in-Some-clause-played
returns-in-Some-clause-played g c =
    stage_from c.args.self.now c.end_stage-ended.new.self c.start-begun.new.self c.args.what.now c.in-Some.subject _ _ _ c.in-Some.is
    c.end_stage-ended.ensures.played c.start-begun.ensures.played

pub returns-in-Some-clause-answer : goal.returns-in-Some-clause-answer
returns-in-Some-clause-answer g c =
    stage_says _ c.args.what.now c.in-Some.subject _ _ _ _ _ c.in-Some.is c.end_stage-ended.ensures.answer c.start-begun.ensures.answer
