use Rattle.std.proofs.Common.{[], ◌∷◌, ◌∙◌, length}
use Rattle.pfs_session.specs.Settlements.{owed_by_state, settle_cost}
use Rattle.pfs_session.specs.Turns.{SettlesHeld}
use Rattle.pfs_actor.proofs.PlainSteps.{played_on, store_of, used_on}
use Rattle.pfs_actor.proofs.plain.PlainActorActor.pause.Goals as goal

pub pause-requires-clause-alone : goal.pause-requires-clause-alone
pause-requires-clause-alone g c = λ r above. c.args.self.now.idle r

pub pause-requires-clause-affords : goal.pause-requires-clause-affords
pause-requires-clause-affords g c = record {
  left = c.requires.affords.left;
  draws = c.requires.affords.draws;
  room = c.requires.affords.room;
}

pub returns-clause-played : goal.returns-clause-played
returns-clause-played g c = played_on g.N.Named.setting g.N.Named.change c.args.self.now.admin (store_of c.args.self.now.rows) (store_of c.pause.new.rows) (SettlesHeld ∷ []) c.args.session c.pause.result c.pause.ensures.played

pub returns-clause-used : goal.returns-clause-used
returns-clause-used g c =
    let s = c.args.session.state in
    used_on g.N.Named.setting g.N.Named.change (length (owed_by_state s)) 0 (settle_cost (owed_by_state s)) (store_of c.args.self.now.rows) (store_of c.pause.new.rows) c.args.self.now.admin c.args.session.journal c.pause.result.journal c.pause.ensures.used

pub invariant_of-self : goal.invariant_of-self
invariant_of-self g c = record {
  idle = λ r. c.pause.ensures.used.hand r ∙ c.args.self.now.idle r;
  lent = c.pause.ensures.used.words ∙ c.args.self.now.lent;
}
