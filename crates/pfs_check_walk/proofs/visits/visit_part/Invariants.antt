use Rattle.std.proofs.Common.{◌≤◌, List}
use Rattle.pfs_model.specs.Contexts.{Context, after_entries, subject_of}
use Rattle.pfs_model.specs.EntryPlaces.{Placed}
use Rattle.pfs_check_faults.specs.ReportCases.{Case, Findings}
use Rattle.pfs_check_walk.specs.Walks.{entries_between}
use Rattle.pfs_check_walk.proofs.EntryWalks.{IsUpTo, front_of}
use Rattle.pfs_check_walk.proofs.visits.visit_part.Given as goal

abbrev pub invariant-loop-at : goal.invariant-loop-at
invariant-loop-at g l = record {
  from : l.start ≤ l.at;
  to : l.at ≤ l.end;
  tracked : (context : Context) → g.T.Track.tells l.fn.track context
      → g.T.Track.tells l.track (after_entries (subject_of l.line) context (entries_between l.entries l.start l.at));
  walked : (case : Case) → (found : Findings) → (earlier : List Placed) → (context : Context)
      → g.T.Track.tells l.fn.track context → g.V.Visit.knows l.fn.visitor case found earlier
      → IsUpTo (g.V.Visit.rule case found) (g.V.Visit.knows l.visitor case found) earlier (front_of l.spot l.line context l.entries l.start l.at);
}
