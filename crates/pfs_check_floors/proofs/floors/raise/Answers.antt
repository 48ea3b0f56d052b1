use Rattle.std.proofs.lemmas.Result.{on_ok_weaker}
use Rattle.pfs_check_floors.proofs.FloorFacts.{raised_one}
use Rattle.pfs_check_floors.proofs.floors.raise.Goals as goal

pub returns : goal.returns
returns c =
    on_ok_weaker c.raise_to.result
    (raised_one c.args.known.now c.raise_to.new.known c.args.session c.args.row c.args.version) c.raise_to.ensures
