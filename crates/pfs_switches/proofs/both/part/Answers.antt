use Rattle.pfs_switches.proofs.Seats.{parts_with}
use Rattle.pfs_switches.proofs.both.part.Goals as goal

pub split_seat-pen-requires : goal.split_seat-pen-requires
split_seat-pen-requires c = (c.requires.table.0, c.requires.table.1, parts_with _ c.args.top.now.key.items c.args.both.id c.args.both.me.0 c.requires.both.0 c.requires.both.1)
