use Rattle.std.proofs.Common.{◌≡◌, sym, subst, arith}
use Rattle.pfs_model.specs.Contexts.{subject_of, after_entries}
use Rattle.pfs_model.specs.EntryPlaces.{placed_part}
use Rattle.pfs_check_faults.specs.ReportCases.{AllHave}
use Rattle.pfs_check_walk.specs.Walks.{IsVisited, entries_between, onto}
use Rattle.pfs_check_walk.proofs.EntryWalks.{IsUpTo, front_of, nothing_between, step, stop, tracked_more}
use Rattle.pfs_check_walk.proofs.visits.visit_part.Goals as goal

pub loop-at-init : goal.loop-at-init
loop-at-init g c = record {
  from = omega arith;
  to = c.requires.order;
  tracked = λ context t.
      subst (λ z. g.T.Track.tells c.args.track.now (after_entries (subject_of c.args.line.now) context z))
      (sym (nothing_between c.args.entries.now c.args.start)) t;
  walked = λ case found earlier context t k.
      subst (λ z. IsUpTo (g.V.Visit.rule case found) (g.V.Visit.knows c.args.visitor.now case found) earlier
      (placed_part c.args.spot.phase c.args.spot.session c.args.line.now context z))
      (sym (nothing_between c.args.entries.now c.args.start)) (record { keep = tt; known = k });
}

pub returns-then-not-branch-clause-walked : goal.returns-then-not-branch-clause-walked
returns-then-not-branch-clause-walked g c case found earlier context t k =
    let u = c.loop-at.invariant.walked case found earlier context t k in
    stop (g.V.Visit.rule case found) (g.V.Visit.knows c.loop-at.visitor case found) (g.V.Visit.knows c.visit.new.self case found)
    earlier c.args.spot c.args.line.now context c.args.entries.now c.args.start c.loop-at.at c.args.end c.entry-entry.result
    c.loop-at.invariant.from c.loop-at-test.true c.entry-entry.ensures u
    (subst (IsVisited (g.V.Visit.rule case found) _ _ (g.V.Visit.knows c.visit.new.self case found)) c.if-not-branch.true
    (c.in_ok-visit.ensures case found _ _ (c.loop-at.invariant.tracked context t) u.known))

pub loop-at-preserved : goal.loop-at-preserved
loop-at-preserved g c = record {
  from = omega (arith, c.loop-at.invariant.from);
  to = omega (arith, c.loop-at-test.true);
  tracked = λ context t.
      tracked_more (g.T.Track.tells c.note.new.self) c.args.line.now context c.args.entries.now c.args.start c.loop-at.at
      c.entry-entry.result c.loop-at.invariant.from c.entry-entry.ensures
      (c.in_ok-note.ensures _ (c.loop-at.invariant.tracked context t)).is;
  walked = λ case found earlier context t k.
      let u = c.loop-at.invariant.walked case found earlier context t k in
      step (g.V.Visit.rule case found) (g.V.Visit.knows c.loop-at.visitor case found) (g.V.Visit.knows c.visit.new.self case found)
      earlier c.args.spot c.args.line.now context c.args.entries.now c.args.start c.loop-at.at c.entry-entry.result
      c.loop-at.invariant.from c.entry-entry.ensures u
      (subst (IsVisited (g.V.Visit.rule case found) _ _ (g.V.Visit.knows c.visit.new.self case found)) c.if-not-branch.false
      (c.in_ok-visit.ensures case found _ _ (c.loop-at.invariant.tracked context t) u.known));
}

pub returns-clause-walked : goal.returns-clause-walked
returns-clause-walked g c case found earlier context t k =
    let u = c.loop-at.invariant.walked case found earlier context t k in
    let same : c.loop-at.at ≡ c.args.end = omega (arith, c.loop-at.invariant.to, c.loop-at-test.false) in
    subst (λ z. AllHave (g.V.Visit.rule case found) earlier (front_of c.args.spot c.args.line.now context c.args.entries.now c.args.start z)
    × g.V.Visit.knows c.loop-at.visitor case found
    (onto earlier (front_of c.args.spot c.args.line.now context c.args.entries.now c.args.start z))) same (u.keep, u.known)

pub returns-clause-tracked : goal.returns-clause-tracked
returns-clause-tracked g c context t =
    let same : c.loop-at.at ≡ c.args.end = omega (arith, c.loop-at.invariant.to, c.loop-at-test.false) in
    subst (λ z. g.T.Track.tells c.loop-at.track
    (after_entries (subject_of c.args.line.now) context (entries_between c.args.entries.now c.args.start z))) same
    (c.loop-at.invariant.tracked context t)
