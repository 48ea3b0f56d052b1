use Rattle.pfs_session.proofs.EventSteps.{finish_all}
use Rattle.pfs_session.proofs.session.Session.finish.Goals as goal

pub returns-clause-finished : goal.returns-clause-finished
returns-clause-finished g c =
    finish_all c.args.self.now c.count-counting.new.self c.digest-digest.new.self c.put-puts.new.self c.args.what.now c.args.numbers.now
    c.count-counting.result.consumers c.count-counting.result.thread c.count-counting.result.summary c.digest-digest.result
    c.put-puts.result.current c.put-puts.result.history c.put-puts.result.long _ _ _ _
    c.count-counting.ensures.counted c.digest-digest.ensures.digested c.digest-digest.ensures.rest c.put-puts.ensures.puts
    c.put-puts.ensures.stand
