use Rattle.std.proofs.Common.{refl}
use Rattle.pfs_check_walk.specs.Walks.{place_of}
use Rattle.pfs_check_finals.proofs.losing.LosingVisit.visit.Goals as goal

pub returns : goal.returns
returns g c = λ case found earlier context told known.
    let place = place_of c.args.spot c.args.line.now context c.args.entry.now in
    (tt, c.in_ok-note.ensures earlier place refl (c.losses_at-more.ensures place refl refl) known)
