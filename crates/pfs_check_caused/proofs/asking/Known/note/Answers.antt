use Rattle.std.proofs.Common.{refl, sym}
use Rattle.pfs_check_walk.specs.Walks.{place_of}
use Rattle.pfs_check_caused.proofs.asking.Known.note.Goals as goal

pub returns : goal.returns
returns g c = λ all earlier context told known.
    let place = place_of c.args.spot c.args.line.now context c.args.entry.now in record {
      sights = c.in_ok-note.ensures all earlier place refl refl (c.loads_in-loads.ensures place refl (sym (c.slot.ensures context told)) refl) known.sights;
      causes = known.causes;
      rises = known.rises;
    }
