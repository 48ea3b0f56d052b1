use Rattle.std.proofs.Common.{◌∷◌, [], ◌∙◌}
use Rattle.pfs_levels.specs.Calls.{Rings}
use Rattle.pfs_board_session.proofs.SeatedSteps.{goes_on, idle_there, kept_on, store_of}
use Rattle.pfs_board_session.proofs.seated.SeatedRows.ring_try.Goals as goal

pub ring_try-requires-clause-away : goal.ring_try-requires-clause-away
ring_try-requires-clause-away g c = idle_there _ store_of c.args.self.now.rows _ c.in-Some.is c.args.self.now.idle c.args.row

pub returns-clause-call : goal.returns-clause-call
returns-clause-call g c = goes_on _ g.N.Named.setting g.N.Named.change g.N.Shared.switches store_of c.args.self.now.rows _ c.ring_try.new.self c.in-Some.is (Rings c.args.row c.args.content.now c.ring_try.result ∷ []) (tt, tt) c.ring_try.ensures.call

pub returns-clause-kept : goal.returns-clause-kept
returns-clause-kept g c = kept_on _ g.N.Named.setting g.N.Named.change g.N.Shared.switches store_of c.args.self.now.rows _ c.ring_try.new.self c.in-Some.is 1 0 c.ring_try.ensures.kept

pub invariant_of-self : goal.invariant_of-self
invariant_of-self g c = record { idle = λ r. c.ring_try.ensures.kept.hand r ∙ idle_there _ store_of c.args.self.now.rows _ c.in-Some.is c.args.self.now.idle r }
