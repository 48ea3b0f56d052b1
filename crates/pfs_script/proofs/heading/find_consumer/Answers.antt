use Rattle.pfs_script.proofs.SettingNames.{consumer_is}
use Rattle.pfs_script.proofs.heading.find_consumer.Goals as goal

pub returns : goal.returns
returns c = consumer_is c.find.result c.args.name.now c.find.ensures
