use Rattle.std.proofs.Common.{true, sym, subst}
use Rattle.pfs_model.specs.Floors.{NamingsKeep}
use Rattle.pfs_check_floors.specs.KnownFloors.{Tells}
use Rattle.pfs_check_floors.specs.RowNames.{naming_list}
use Rattle.pfs_check_floors.proofs.rows.RowFloors.keeps.Goals as goal

pub returns-in-Changed : goal.returns-in-Changed
returns-in-Changed c = λ all earlier place known at.
    subst (λ z. Tells (NamingsKeep all earlier place (naming_list z)) c.is_changed_well.result) (sym c.in-Changed.is)
    (c.is_changed_well.ensures all earlier place known at)

pub returns-in-Seen : goal.returns-in-Seen
returns-in-Seen c = λ all earlier place known at.
    subst (λ z. Tells (NamingsKeep all earlier place (naming_list z)) c.is_seen_well.result) (sym c.in-Seen.is)
    (c.is_seen_well.ensures all earlier place known at)

pub returns-in-Freed : goal.returns-in-Freed
returns-in-Freed c = λ all earlier place known at.
    subst (λ z. Tells (NamingsKeep all earlier place (naming_list z)) c.is_freed_well.result) (sym c.in-Freed.is)
    (c.is_freed_well.ensures all earlier place known at)

pub returns-in-Nothing : goal.returns-in-Nothing
returns-in-Nothing c = λ all earlier place known at.
    subst (λ z. Tells (NamingsKeep all earlier place (naming_list z)) true) (sym c.in-Nothing.is) tt
