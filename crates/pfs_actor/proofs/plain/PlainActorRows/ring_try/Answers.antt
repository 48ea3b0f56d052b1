use Rattle.std.proofs.Common.{◌∙◌, [], ◌∷◌}
use Rattle.pfs_levels.specs.Calls.{Rings}
use Rattle.pfs_actor.proofs.PlainSteps.{goes_on, kept_on, store_of}
use Rattle.pfs_actor.proofs.plain.PlainActorRows.ring_try.Goals as goal

pub returns-clause-call : goal.returns-clause-call
returns-clause-call g c = goes_on g.N.Named.setting g.N.Named.change c.args.self.now.admin (store_of c.args.self.now.rows) (store_of c.ring_try.new.self) (Rings c.args.row c.args.content.now c.ring_try.result ∷ []) (tt, tt) c.ring_try.ensures.call

pub returns-clause-kept : goal.returns-clause-kept
returns-clause-kept g c = kept_on g.N.Named.setting g.N.Named.change 1 0 (store_of c.args.self.now.rows) (store_of c.ring_try.new.self) c.args.self.now.admin c.ring_try.ensures.kept

pub invariant_of-self : goal.invariant_of-self
invariant_of-self g c = record {
  idle = λ r. c.ring_try.ensures.kept.hand r ∙ c.args.self.now.idle r;
  lent = c.ring_try.ensures.kept.words ∙ c.args.self.now.lent;
}
