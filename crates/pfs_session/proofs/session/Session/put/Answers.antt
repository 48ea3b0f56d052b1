use Rattle.std.proofs.Common.{rules, refl, ◌∙◌, ap}
use Rattle.pfs_consumers.specs.declared.Consumer.{Consumer}
use Rattle.pfs_session.specs.EventPuts.{goes_on}
use Rattle.pfs_session.proofs.PutCalls.{stand}
use Rattle.pfs_session.proofs.EventSteps.{puts_done, puts_none}
use Rattle.pfs_session.proofs.session.Session.put.Goals as goal

pub returns-clause-puts : goal.returns-clause-puts
returns-clause-puts g c =
    puts_done _ c.args.self.now _ c.in-Some.slot c.depth.result c.of.result c.args.what.now c.args.numbers.now c.args.consumers c.args.thread c.ended_event-event.result
    c.goes_on-due.result c.goes_on-due-2.result c.offer-current.result c.offer-history.result c.offer-long.result c.offer-current.new.log c.offer-history.new.log
    c.moved_by-self-inside.result _ _ _ _ c.self.view_is c.in-Some.is c.ended_event-event.ensures (search rules) c.of.ensures.next (c.goes_on-due.ensures ∙ ap (λ (z : Consumer). goes_on c.args.what.now.placed z c.args.consumers c.args.thread) c.history_consumer.ensures)
    (c.goes_on-due-2.ensures ∙ ap (λ (z : Consumer). goes_on c.args.what.now.placed z c.args.consumers c.args.thread) c.long_consumer.ensures)
    c.offer-current.ensures.put c.offer-history.ensures.put c.offer-long.ensures.put c.moved_by-self-inside.ensures.moved refl

pub returns-clause-stand : goal.returns-clause-stand
returns-clause-stand g c =
    stand _ _ _ _ c.offer-current.result c.offer-history.result c.offer-long.result c.offer-current.ensures.stands c.offer-history.ensures.stands c.offer-long.ensures.stands

pub returns-then-not-what-clause-puts : goal.returns-then-not-what-clause-puts
returns-then-not-what-clause-puts g c =
    puts_none c.args.self.now c.args.what.now c.args.numbers.now c.args.consumers c.args.thread (g.R.Readable.seen c.args.rows.now).reached _ refl c.requires.there c.if-not-what.true
