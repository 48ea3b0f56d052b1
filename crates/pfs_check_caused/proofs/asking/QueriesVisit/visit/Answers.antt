use Rattle.std.proofs.Common.{refl}
use Rattle.pfs_check_faults.specs.ReportCases.{entries_of}
use Rattle.pfs_check_walk.specs.Walks.{place_of}
use Rattle.pfs_check_caused.proofs.CauseFacts.{query_kept, query_lacks}
use Rattle.pfs_check_caused.proofs.asking.QueriesVisit.visit.Goals as goal

pub returns-then-not-kept : goal.returns-then-not-kept
returns-then-not-kept g c = λ case found earlier context told known.
    query_lacks (entries_of found) earlier (place_of c.args.spot c.args.line.now context c.args.entry.now) c.shows-shown.result
    c.is_query_shown-kept.result (c.shows-shown.ensures (entries_of found) earlier c.args.line.now context told known)
    c.is_query_shown-kept.ensures c.if-not-kept.true

pub returns : goal.returns
returns g c = λ case found earlier context told known. (
  query_kept (entries_of found) earlier (place_of c.args.spot c.args.line.now context c.args.entry.now) c.shows-shown.result
      c.is_query_shown-kept.result (c.shows-shown.ensures (entries_of found) earlier c.args.line.now context told known)
      c.is_query_shown-kept.ensures c.if-not-kept.false,
  c.in_ok-note.ensures (entries_of found) earlier context told known,
)
