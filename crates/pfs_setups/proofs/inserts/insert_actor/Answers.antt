use Rattle.std.proofs.Common.{◌∙◌}
use Rattle.pfs_matching.specs.ActorRules.{actor_key}
use Rattle.pfs_setups.proofs.InsertAnswers.{answers, adds}
use Rattle.pfs_setups.proofs.inserts.insert_actor.Goals as goal

pub returns-clause-answer : goal.returns-clause-answer
returns-clause-answer c =
    c.answer_of.ensures ∙ answers actor_key c.args.actors.now c.args.row c.insert.result c.insert.ensures.duplicate c.insert.ensures.full

pub returns-clause-rows : goal.returns-clause-rows
returns-clause-rows c =
    adds actor_key c.args.actors.now c.insert.new.self c.args.row c.insert.result c.insert.ensures.ok c.insert.ensures.err (answers actor_key c.args.actors.now c.args.row c.insert.result c.insert.ensures.duplicate c.insert.ensures.full)
