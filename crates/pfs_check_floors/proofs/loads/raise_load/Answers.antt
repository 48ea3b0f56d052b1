use Rattle.std.proofs.Common.{sym, subst}
use Rattle.std.specs.Prelude.{OnOk}
use Rattle.pfs_check_floors.specs.KnownFloors.{AreRaised}
use Rattle.pfs_check_floors.specs.WordLoads.{load_list}
use Rattle.pfs_check_floors.proofs.FloorFacts.{raised_none}
use Rattle.pfs_check_floors.proofs.loads.raise_load.Goals as goal

pub returns-in-Some : goal.returns-in-Some
returns-in-Some c =
    subst (λ z. OnOk c.raise.result (AreRaised c.args.known.now c.raise.new.known c.args.session (load_list z))) (sym c.in-Some.is)
    c.raise.ensures

pub returns-in-None : goal.returns-in-None
returns-in-None c =
    subst (λ z. AreRaised c.args.known.now c.args.known.now c.args.session (load_list z)) (sym c.in-None.is)
    (raised_none c.args.known.now c.args.session)
