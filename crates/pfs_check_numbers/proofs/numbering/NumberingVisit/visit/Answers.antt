use Rattle.std.proofs.Common.{refl, sym}
use Rattle.pfs_check_walk.specs.Walks.{place_of}
use Rattle.pfs_check_numbers.proofs.NumberFacts.{tells_number, visited_by, answered_of}
use Rattle.pfs_check_numbers.proofs.numbering.NumberingVisit.visit.Goals as goal

pub returns : goal.returns
returns g c = λ case found earlier context told known.
    let place = place_of c.args.spot c.args.line.now context c.args.entry.now in
    visited_by case found c.args.self.now.orders earlier place _ _ _ c.terms.ensures known
    (tells_number earlier place c.in_ok-numbered.numbered (c.in_ok-numbered.ensures case found earlier context told tt))
    (answered_of c.as_slice.result.now c.args.self.now.orders.orders.items place c.is_answered-answered.result c.as_slice.ensures.value
    (c.is_answered-answered.ensures place refl (sym (c.action-action.ensures context told))))
    c.both-kept.ensures
