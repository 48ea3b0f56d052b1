use Rattle.std.proofs.Common.{arith, length, sym, ◌∙◌}
use Rattle.pfs_session.specs.Settlements.{owed_by_state, settle_cost}
use Rattle.pfs_board_session.proofs.SeatedSteps.{idle_there, left_at, settled, store_of, used_on}
use Rattle.pfs_board_session.proofs.seated.SeatedActor.pause.Goals as goal

pub pause-rows-requires-clause-alone : goal.pause-rows-requires-clause-alone
pause-rows-requires-clause-alone g c = idle_there _ store_of c.args.self.now.rows c.in-Some.rows (sym c.take.ensures.value ∙ c.in-Some.is) c.args.self.now.idle

pub pause-rows-requires-clause-spare : goal.pause-rows-requires-clause-spare
pause-rows-requires-clause-spare g c = omega (arith, c.requires.affords.left, left_at _ store_of c.args.self.now.rows c.in-Some.rows (sym c.take.ensures.value ∙ c.in-Some.is))

pub returns-clause-played : goal.returns-clause-played
returns-clause-played g c = settled _ g.N.Named.setting g.N.Named.change g.N.Shared.switches store_of c.args.self.now.rows c.in-Some.rows c.pause-rows.result.0 (sym c.take.ensures.value ∙ c.in-Some.is) c.args.session _ c.pause-rows.ensures.played

pub returns-clause-used : goal.returns-clause-used
returns-clause-used g c =
    used_on _ g.N.Named.setting g.N.Named.change g.N.Shared.switches store_of c.args.self.now.rows c.in-Some.rows c.pause-rows.result.0 (sym c.take.ensures.value ∙ c.in-Some.is) (length (owed_by_state c.args.session.state)) (settle_cost (owed_by_state c.args.session.state)) c.args.session.journal _ c.pause-rows.ensures.left c.pause-rows.ensures.draws c.pause-rows.ensures.room

pub invariant_of-self : goal.invariant_of-self
invariant_of-self g c = record { idle = c.pause-rows.ensures.hand }
