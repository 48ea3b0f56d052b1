use Rattle.std.proofs.Common.{refl}
use Rattle.pfs_levels.proofs.PlainCalls.{at_ticket}
use Rattle.pfs_levels.proofs.plain.PlainRowsRows.ticket.Goals as goal

pub returns-clause-call : goal.returns-clause-call
returns-clause-call c = λ start calls at. at_ticket _ _ _ start.flags calls c.args.kind _ c.requires.known c.args.self.now.room.tickets_wide refl at
