use Rattle.std.proofs.Common.{◌+◌, ◌∷◌, [], refl, sym, ◌∙◌}
use Rattle.pfs_law_session.specs.Deeds.{Truncating}
use Rattle.pfs_session.specs.Turns.{SettlesHeld, Truncates}
use Rattle.pfs_board_session.proofs.SeatedSteps.{begun_there, has_acted, idle_at, store_of, used_all}
use Rattle.pfs_board_session.proofs.seated.SeatedActor.truncate.Goals as goal

pub truncate-requires-clause-idle : goal.truncate-requires-clause-idle
truncate-requires-clause-idle g c = idle_at _ store_of g.N.Named.setting g.N.Named.change g.N.Shared.switches c.args.self.now.rows c.in-Some.rows (sym c.take.ensures.value ∙ c.in-Some.is) _ _ c.args.session.now c.args.self.now.idle c.requires.acts

pub truncate-requires-clause-begun : goal.truncate-requires-clause-begun
truncate-requires-clause-begun g c = begun_there _ g.N.Named.setting g.N.Named.change g.N.Shared.switches store_of c.args.self.now.rows c.in-Some.rows (sym c.take.ensures.value ∙ c.in-Some.is) c.requires.acts.begun

pub returns-clause-acted : goal.returns-clause-acted
returns-clause-acted g c =
    let acted = c.truncate.ensures.acted in
    has_acted _ g.N.Named.setting g.N.Named.change g.N.Shared.switches store_of c.args.self.now.rows c.in-Some.rows c.truncate.result (sym c.take.ensures.value ∙ c.in-Some.is) (λ admin. Truncating admin c.args.what) (acted.admin.actions + 1) (λ admin. SettlesHeld ∷ Truncates admin c.args.what ∷ []) c.args.session.now _ acted refl refl (λ labels is. (is, c.requires.named))

pub returns-clause-used : goal.returns-clause-used
returns-clause-used g c = used_all _ g.N.Named.setting g.N.Named.change g.N.Shared.switches store_of c.args.self.now.rows c.in-Some.rows c.truncate.result (sym c.take.ensures.value ∙ c.in-Some.is) _ _ _ _ c.truncate.ensures.used

pub invariant_of-self : goal.invariant_of-self
invariant_of-self g c = record { idle = c.truncate.ensures.hand }
