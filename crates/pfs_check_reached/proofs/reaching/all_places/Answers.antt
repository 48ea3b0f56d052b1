use Rattle.pfs_check_reached.proofs.WalkFacts.{place_more}
use Rattle.pfs_check_reached.proofs.reaching.all_places.Goals as goal

pub loop-place-preserved : goal.loop-place-preserved
loop-place-preserved c =
    place_more c.loop-place.places.items c.push.new.self.items c.loop-place.place c.in_ok-push.ensures.items c.loop-place.invariant
