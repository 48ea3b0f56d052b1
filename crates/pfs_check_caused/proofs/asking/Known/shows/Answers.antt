use Rattle.std.proofs.Common.{refl}
use Rattle.pfs_check_walk.specs.Walks.{place_of}
use Rattle.pfs_check_caused.proofs.asking.Known.shows.Goals as goal

pub returns : goal.returns
returns g c = λ all earlier line context told known.
    c.show.ensures all earlier (place_of c.args.spot line context c.args.entry.now) known.sights.rows known.causes known.rises
    (record { phase = refl; session = refl; done = c.done.ensures context told })
