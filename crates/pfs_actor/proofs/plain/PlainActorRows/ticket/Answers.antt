use Rattle.std.proofs.Common.{◌∙◌, [], ◌∷◌}
use Rattle.pfs_levels.specs.Calls.{Draws}
use Rattle.pfs_actor.proofs.PlainSteps.{goes_on, kept_on, store_of}
use Rattle.pfs_actor.proofs.plain.PlainActorRows.ticket.Goals as goal

pub returns-clause-call : goal.returns-clause-call
returns-clause-call g c = goes_on g.N.Named.setting g.N.Named.change c.args.self.now.admin (store_of c.args.self.now.rows) (store_of c.ticket.new.self) (Draws c.args.kind c.ticket.result ∷ []) (tt, tt) c.ticket.ensures.call

pub returns-clause-kept : goal.returns-clause-kept
returns-clause-kept g c = kept_on g.N.Named.setting g.N.Named.change 0 1 (store_of c.args.self.now.rows) (store_of c.ticket.new.self) c.args.self.now.admin c.ticket.ensures.kept

pub invariant_of-self : goal.invariant_of-self
invariant_of-self g c = record {
  idle = λ r. c.ticket.ensures.kept.hand r ∙ c.args.self.now.idle r;
  lent = c.ticket.ensures.kept.words ∙ c.args.self.now.lent;
}
