use Rattle.std.proofs.Common.{◌∙◌, List, ap, subst, arith}
use Rattle.pfs_event.specs.declared.entry.Entry.{Entry}
use Rattle.pfs_model.specs.Contexts.{after_entries, subject_of, turned}
use Rattle.pfs_model.specs.EntryPlaces.{placed_part}
use Rattle.pfs_check_trail.specs.Trails.{IsTrailOf, trimmed}
use Rattle.pfs_check_trail.proofs.TrailSteps.{turned_alike}
use Rattle.pfs_check_walk.specs.Walks.{LacksFirst}
use Rattle.pfs_check_visits.proofs.LineVisits.{part_kept}
use Rattle.pfs_check_visits.proofs.block_visits.visit_line.Goals as goal

pub returns-in-None : goal.returns-in-None
returns-in-None g c = λ case found earlier context told known.
    let t = ap trimmed c.turn.ensures ∙ turned_alike context c.args.track.now told in (
      part_kept (g.V.Visit.rule case found) earlier (g.V.Visit.knows c.visit_part.new.visitor case found) c.args.spot.phase c.args.spot.session
          c.args.line.now (turned context) c.args.entries.now c.part_between-part.result.from c.part_between-part.result.to c.args.start c.args.end _
          c.part_between-part.ensures.within c.part_between-part.ensures.same
          (rw c.in-None.is at (c.in_ok-lacking.ensures.walked case found earlier (turned context) t known)) (omega arith),
      subst (λ (z : List Entry). IsTrailOf (after_entries (subject_of c.args.line.now) (turned context) z) c.visit_part.new.track)
          c.part_between-part.ensures.same (rw c.in-None.is at (c.in_ok-lacking.ensures.tracked (turned context) t)),
    )

pub returns-in-Some : goal.returns-in-Some
returns-in-Some g c = λ case found earlier context told known.
    let t = ap trimmed c.turn.ensures ∙ turned_alike context c.args.track.now told in
    subst (λ (z : List Entry). LacksFirst (g.V.Visit.rule case found) earlier
    (placed_part c.args.spot.phase c.args.spot.session c.args.line.now (turned context) z) c.in-Some.at) c.part_between-part.ensures.same
    (rw c.in-Some.is at (c.in_ok-lacking.ensures.walked case found earlier (turned context) t known))
