use Rattle.std.proofs.Common.{true, sym, subst}
use Rattle.pfs_model.specs.Chains.{word_change}
use Rattle.pfs_model.specs.Floors.{LoadsKeep, loads_in}
use Rattle.pfs_check_floors.specs.KnownFloors.{Tells}
use Rattle.pfs_check_floors.specs.WordLoads.{load_list}
use Rattle.pfs_check_floors.proofs.LoadFacts.{load_tells}
use Rattle.pfs_check_floors.proofs.floors.Floors.load_well.Goals as goal

pub returns-in-Some : goal.returns-in-Some
returns-in-Some c = λ all earlier place known at.
    subst (λ z. Tells (LoadsKeep all earlier place (load_list z)) c.is_seen_well.result) (sym c.in-Some.is)
    (load_tells all earlier place c.in-Some.load.word c.in-Some.load.version c.is_seen_well.result
    (c.is_seen_well.ensures word_change loads_in all earlier place known at))

pub returns-in-None : goal.returns-in-None
returns-in-None c = λ all earlier place known at.
    subst (λ z. Tells (LoadsKeep all earlier place (load_list z)) true) (sym c.in-None.is) tt
