use Rattle.std.proofs.Common.{refl, sym}
use Rattle.pfs_check_walk.specs.Walks.{place_of}
use Rattle.pfs_check_tickets.proofs.collecting.CollectingVisit.visit.Goals as goal

pub returns : goal.returns
returns g c = λ case found earlier context told known.
    let place = place_of c.args.spot c.args.line.now context c.args.entry.now in (
      tt,
      (
        λ phases. c.in_ok-note.ensures earlier place refl (sym c.put_in-put.ensures) phases.0 (known.0 phases.1),
        c.in_ok-note-2.ensures earlier place refl known.1,
      ),
    )
