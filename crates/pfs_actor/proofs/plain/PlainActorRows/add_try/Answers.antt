use Rattle.std.proofs.Common.{◌∙◌, [], ◌∷◌}
use Rattle.pfs_levels.specs.Calls.{Adds}
use Rattle.pfs_actor.proofs.PlainSteps.{goes_on, kept_on, store_of}
use Rattle.pfs_actor.proofs.plain.PlainActorRows.add_try.Goals as goal

pub returns-clause-call : goal.returns-clause-call
returns-clause-call g c = goes_on g.N.Named.setting g.N.Named.change c.args.self.now.admin (store_of c.args.self.now.rows) (store_of c.add_try.new.self) (Adds c.args.row c.args.amount.now c.add_try.result ∷ []) (tt, tt) c.add_try.ensures.call

pub returns-clause-kept : goal.returns-clause-kept
returns-clause-kept g c = kept_on g.N.Named.setting g.N.Named.change 1 0 (store_of c.args.self.now.rows) (store_of c.add_try.new.self) c.args.self.now.admin c.add_try.ensures.kept

pub invariant_of-self : goal.invariant_of-self
invariant_of-self g c = record {
  idle = λ r. c.add_try.ensures.kept.hand r ∙ c.args.self.now.idle r;
  lent = c.add_try.ensures.kept.words ∙ c.args.self.now.lent;
}
