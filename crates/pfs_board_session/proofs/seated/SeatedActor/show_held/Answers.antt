use Rattle.std.proofs.Common.{sym, ◌∙◌}
use Rattle.pfs_board_session.proofs.SeatedSteps.{begun_there, has_broken_off, has_shown, idle_at, store_of, used_all}
use Rattle.pfs_board_session.proofs.seated.SeatedActor.show_held.Goals as goal

pub show_held-rows-requires-clause-idle : goal.show_held-rows-requires-clause-idle
show_held-rows-requires-clause-idle g c = idle_at _ store_of g.N.Named.setting g.N.Named.change g.N.Shared.switches c.args.self.now.rows c.in-Some.rows (sym c.take.ensures.value ∙ c.in-Some.is) _ _ c.args.session.now c.args.self.now.idle c.requires.acts

pub show_held-rows-requires-clause-begun : goal.show_held-rows-requires-clause-begun
show_held-rows-requires-clause-begun g c = begun_there _ g.N.Named.setting g.N.Named.change g.N.Shared.switches store_of c.args.self.now.rows c.in-Some.rows (sym c.take.ensures.value ∙ c.in-Some.is) c.requires.acts.begun

pub returns-clause-shown : goal.returns-clause-shown
returns-clause-shown g c =
    has_shown _ g.N.Named.setting g.N.Named.change g.N.Shared.switches store_of c.args.self.now.rows c.in-Some.rows c.show_held-rows.result.0 (sym c.take.ensures.value ∙ c.in-Some.is) c.args.query.now c.show_held-rows.result.1 c.args.session.now _ c.requires.named c.show_held-rows.ensures.shown

pub returns-clause-broken : goal.returns-clause-broken
returns-clause-broken g c =
    has_broken_off _ g.N.Named.setting g.N.Named.change g.N.Shared.switches store_of c.args.self.now.rows c.in-Some.rows c.show_held-rows.result.0 (sym c.take.ensures.value ∙ c.in-Some.is) c.args.query.now c.show_held-rows.result.1 c.args.session.now _ c.requires.named c.show_held-rows.ensures.shown

pub returns-clause-used : goal.returns-clause-used
returns-clause-used g c = used_all _ g.N.Named.setting g.N.Named.change g.N.Shared.switches store_of c.args.self.now.rows c.in-Some.rows c.show_held-rows.result.0 (sym c.take.ensures.value ∙ c.in-Some.is) _ _ _ _ c.show_held-rows.ensures.used

pub invariant_of-self : goal.invariant_of-self
invariant_of-self g c = record { idle = c.show_held-rows.ensures.hand }
