use Rattle.std.proofs.Common.{sym, ◌∙◌}
use Rattle.pfs_containers.proofs.LowestPlaces.{found_at}
use Rattle.pfs_containers.proofs.places.find_session.Goals as goal

pub returns-in-Some-threads-clause-entry : goal.returns-in-Some-threads-clause-entry
returns-in-Some-threads-clause-entry c =
    found_at _ _ c.in-Some.place _ _ (sym c.session_place.ensures.place ∙ c.in-Some.is) c.in-Some.ensures.inside c.in-Some-threads.is
