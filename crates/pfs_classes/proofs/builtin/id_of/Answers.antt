use Rattle.std.proofs.Common.{sym}
use Rattle.pfs_names.proofs.Ids.{id_is}
use Rattle.pfs_classes.proofs.builtin.id_of.Goals as goal

pub returns : goal.returns
returns c = sym (id_is c.args.names.now c.in-Some.id c.args.text.now c.requires.names c.in-Some.ensures)
