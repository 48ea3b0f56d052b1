use Rattle.std.proofs.Common.{◌*◌}
use Rattle.pfs_gen.proofs.NumberLists.{session_is}
use Rattle.pfs_gen.proofs.script.put_session.Goals as goal

pub returns-clause-text : goal.returns-clause-text
returns-clause-text c = λ number from.
    session_is c.put_units.result number c.args.below c.args.out.now.items c.put_session_line.new.out.items c.put_units.new.out.items c.in_ok-put_session_line.ensures (c.put_units.ensures.text number (500 * c.args.below) from)
