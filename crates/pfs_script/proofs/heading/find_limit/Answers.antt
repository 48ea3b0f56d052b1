use Rattle.pfs_script.proofs.SettingNames.{limit_is}
use Rattle.pfs_script.proofs.heading.find_limit.Goals as goal

pub returns : goal.returns
returns c = limit_is c.find.result c.args.name.now c.find.ensures
