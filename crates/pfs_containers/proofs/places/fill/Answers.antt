use Rattle.std.proofs.Common.{rules}
use Rattle.pfs_containers.proofs.FilledPlaces.{filled_free, filled_taken}
use Rattle.pfs_containers.proofs.places.fill.Goals as goal

pub returns-then-is_none : goal.returns-then-is_none
returns-then-is_none g c =
    filled_free c.args.place c.in-Some.place c.args.entry c.args.places.now c.index-places-at.result c.in-Some.is (search rules) (search rules)

pub returns-else-is_none : goal.returns-else-is_none
returns-else-is_none g c =
    filled_taken c.args.place c.in-Some.place c.args.entry c.args.places.now c.index-places-at.result c.in-Some.is (search rules) (search rules)
