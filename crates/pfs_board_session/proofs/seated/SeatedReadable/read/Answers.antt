use Rattle.std.proofs.Common.{◌∷◌, [], ◌∙◌}
use Rattle.pfs_levels.specs.Calls.{Reads}
use Rattle.pfs_board_session.proofs.SeatedSteps.{goes_on, idle_there, same_on, store_of}
use Rattle.pfs_board_session.proofs.seated.SeatedReadable.read.Goals as goal

pub read-requires-clause-away : goal.read-requires-clause-away
read-requires-clause-away g c = idle_there _ store_of c.args.self.now.rows _ c.in-Some.is c.args.self.now.idle c.args.row

pub returns-clause-call : goal.returns-clause-call
returns-clause-call g c = goes_on _ g.N.Named.setting g.N.Named.change g.N.Shared.switches store_of c.args.self.now.rows _ c.read.new.self c.in-Some.is (Reads c.args.row c.read.result ∷ []) (tt, tt) c.read.ensures.call

pub returns-clause-kept : goal.returns-clause-kept
returns-clause-kept g c = same_on _ g.N.Named.setting g.N.Named.change g.N.Shared.switches store_of c.args.self.now.rows _ c.read.new.self c.in-Some.is c.read.ensures.kept

pub invariant_of-self : goal.invariant_of-self
invariant_of-self g c = record { idle = λ r. c.read.ensures.kept.hand r ∙ idle_there _ store_of c.args.self.now.rows _ c.in-Some.is c.args.self.now.idle r }
