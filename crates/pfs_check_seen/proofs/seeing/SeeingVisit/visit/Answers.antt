use Rattle.std.proofs.Common.{refl, sym}
use Rattle.pfs_check_faults.specs.EntryFaults.{SeesAt}
use Rattle.pfs_check_faults.specs.ReportCases.{entries_of}
use Rattle.pfs_check_walk.specs.Walks.{place_of}
use Rattle.pfs_check_seen.proofs.SeenFacts.{tells_false, tells_true}
use Rattle.pfs_check_seen.proofs.seeing.SeeingVisit.visit.Goals as goal

pub returns-then-not-kept : goal.returns-then-not-kept
returns-then-not-kept g c = λ case found earlier context told known.
    let place = place_of c.args.spot c.args.line.now context c.args.entry.now in
    tells_false (SeesAt (entries_of found) earlier place) c.sees-kept.result
    (c.sees-kept.ensures (entries_of found) earlier place known
    (record { phase = refl; session = refl; done = c.done-done.ensures context told }) (sym (c.slot-slot.ensures context told)) refl
    (c.loads_in-loads.ensures place refl (sym (c.slot-slot.ensures context told)) refl))
    c.if-not-kept.true

pub returns : goal.returns
returns g c = λ case found earlier context told known.
    let place = place_of c.args.spot c.args.line.now context c.args.entry.now in
    let loads = c.loads_in-loads.ensures place refl (sym (c.slot-slot.ensures context told)) refl in (
      tells_true (SeesAt (entries_of found) earlier place) c.sees-kept.result
          (c.sees-kept.ensures (entries_of found) earlier place known
          (record { phase = refl; session = refl; done = c.done-done.ensures context told }) (sym (c.slot-slot.ensures context told)) refl loads)
          c.if-not-kept.false,
      c.in_ok-note.ensures (entries_of found) earlier place refl refl loads known,
    )
