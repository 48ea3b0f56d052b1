use Rattle.pfs_check_orders.proofs.ShownFacts.{over_actors, over_objects}
use Rattle.pfs_check_orders.proofs.shows.answer_of.Goals as goal

pub returns-in-SetupActors : goal.returns-in-SetupActors
returns-in-SetupActors c = λ s held. over_actors c.args.query.now s c.args.tables.now c.select.result c.in-SetupActors.is held c.select.ensures

pub returns-in-SetupObjects : goal.returns-in-SetupObjects
returns-in-SetupObjects c = λ s held. over_objects c.args.query.now s c.args.tables.now c.select-in-SetupObjects.result c.in-SetupObjects.is held c.select-in-SetupObjects.ensures
