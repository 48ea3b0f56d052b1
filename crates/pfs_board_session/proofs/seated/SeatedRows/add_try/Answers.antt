use Rattle.std.proofs.Common.{◌∷◌, [], ◌∙◌}
use Rattle.pfs_levels.specs.Calls.{Adds}
use Rattle.pfs_board_session.proofs.SeatedSteps.{goes_on, idle_there, kept_on, store_of}
use Rattle.pfs_board_session.proofs.seated.SeatedRows.add_try.Goals as goal

pub add_try-requires-clause-away : goal.add_try-requires-clause-away
add_try-requires-clause-away g c = idle_there _ store_of c.args.self.now.rows _ c.in-Some.is c.args.self.now.idle c.args.row

pub returns-clause-call : goal.returns-clause-call
returns-clause-call g c = goes_on _ g.N.Named.setting g.N.Named.change g.N.Shared.switches store_of c.args.self.now.rows _ c.add_try.new.self c.in-Some.is (Adds c.args.row c.args.amount.now c.add_try.result ∷ []) (tt, tt) c.add_try.ensures.call

pub returns-clause-kept : goal.returns-clause-kept
returns-clause-kept g c = kept_on _ g.N.Named.setting g.N.Named.change g.N.Shared.switches store_of c.args.self.now.rows _ c.add_try.new.self c.in-Some.is 1 0 c.add_try.ensures.kept

pub invariant_of-self : goal.invariant_of-self
invariant_of-self g c = record { idle = λ r. c.add_try.ensures.kept.hand r ∙ idle_there _ store_of c.args.self.now.rows _ c.in-Some.is c.args.self.now.idle r }
