use Rattle.std.proofs.Common.{◌∷◌, [], ◌∙◌}
use Rattle.pfs_levels.specs.Calls.{Loads}
use Rattle.pfs_board_session.proofs.SeatedSteps.{goes_on, idle_there, same_on, store_of}
use Rattle.pfs_board_session.proofs.seated.SeatedReadable.load.Goals as goal

pub returns-clause-call : goal.returns-clause-call
returns-clause-call g c = goes_on _ g.N.Named.setting g.N.Named.change g.N.Shared.switches store_of c.args.self.now.rows _ c.load.new.self c.in-Some.is (Loads c.args.word c.load.result.0 c.load.result.1 ∷ []) (c.requires, tt) c.load.ensures.call

pub returns-clause-kept : goal.returns-clause-kept
returns-clause-kept g c = same_on _ g.N.Named.setting g.N.Named.change g.N.Shared.switches store_of c.args.self.now.rows _ c.load.new.self c.in-Some.is c.load.ensures.kept

pub invariant_of-self : goal.invariant_of-self
invariant_of-self g c = record { idle = λ r. c.load.ensures.kept.hand r ∙ idle_there _ store_of c.args.self.now.rows _ c.in-Some.is c.args.self.now.idle r }
