use Rattle.std.proofs.Common.{◌∷◌, [], ◌∙◌}
use Rattle.pfs_levels.specs.Calls.{Draws}
use Rattle.pfs_board_session.proofs.SeatedSteps.{goes_on, idle_there, kept_on, store_of}
use Rattle.pfs_board_session.proofs.seated.SeatedRows.ticket.Goals as goal

pub returns-clause-call : goal.returns-clause-call
returns-clause-call g c = goes_on _ g.N.Named.setting g.N.Named.change g.N.Shared.switches store_of c.args.self.now.rows _ c.ticket.new.self c.in-Some.is (Draws c.args.kind c.ticket.result ∷ []) (tt, tt) c.ticket.ensures.call

pub returns-clause-kept : goal.returns-clause-kept
returns-clause-kept g c = kept_on _ g.N.Named.setting g.N.Named.change g.N.Shared.switches store_of c.args.self.now.rows _ c.ticket.new.self c.in-Some.is 0 1 c.ticket.ensures.kept

pub invariant_of-self : goal.invariant_of-self
invariant_of-self g c = record { idle = λ r. c.ticket.ensures.kept.hand r ∙ idle_there _ store_of c.args.self.now.rows _ c.in-Some.is c.args.self.now.idle r }
