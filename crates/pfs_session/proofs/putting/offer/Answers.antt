use Rattle.std.proofs.Common.{ap}
use Rattle.pfs_session.proofs.PutCalls.{has_put, put_of}
use Rattle.pfs_session.proofs.putting.offer.Goals as goal

pub returns-clause-put : goal.returns-clause-put
returns-clause-put g c =
    has_put c.args.ring c.args.event.now c.put_event-put.result c.entry.result c.args.log.now c.push.new.self c.args.due (g.R.Readable.seen c.args.rows.now).reached (g.R.Readable.seen c.put_event-put.new.rows).reached
    c.if-not-due.false c.put_event-put.ensures.offers c.entry.ensures (ap (λ j. j.entries) c.push.ensures)

pub returns-clause-stands : goal.returns-clause-stands
returns-clause-stands g c =
    put_of c.args.ring c.args.event.now c.put_event-put.result (g.R.Readable.seen c.args.rows.now).reached (g.R.Readable.seen c.put_event-put.new.rows).reached
    (c.requires.ring c.if-not-due.false) c.put_event-put.ensures.offers
