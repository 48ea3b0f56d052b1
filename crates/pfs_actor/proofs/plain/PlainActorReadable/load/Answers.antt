use Rattle.std.proofs.Common.{◌∙◌, [], ◌∷◌}
use Rattle.pfs_levels.specs.Calls.{Loads}
use Rattle.pfs_actor.proofs.PlainSteps.{goes_on, same_on, store_of}
use Rattle.pfs_actor.proofs.plain.PlainActorReadable.load.Goals as goal

pub returns-clause-call : goal.returns-clause-call
returns-clause-call g c = goes_on g.N.Named.setting g.N.Named.change c.args.self.now.admin (store_of c.args.self.now.rows) (store_of c.load.new.self) (Loads c.args.word c.load.result.0 c.load.result.1 ∷ []) (tt, tt) c.load.ensures.call

pub returns-clause-kept : goal.returns-clause-kept
returns-clause-kept g c = same_on g.N.Named.setting g.N.Named.change (store_of c.args.self.now.rows) (store_of c.load.new.self) c.args.self.now.admin c.load.ensures.kept

pub invariant_of-self : goal.invariant_of-self
invariant_of-self g c = record {
  idle = λ r. c.load.ensures.kept.hand r ∙ c.args.self.now.idle r;
  lent = c.load.ensures.kept.words ∙ c.args.self.now.lent;
}
