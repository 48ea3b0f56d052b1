use Rattle.std.proofs.Common.{ap}
use Rattle.pfs_model.specs.EntryPlaces.{places}
use Rattle.pfs_runs.specs.Runs.{all_blocks}
use Rattle.pfs_check_faults.specs.ReportCases.{entries_of, flags_in}
use Rattle.pfs_check_visits.specs.ReportVisits.{entries_by}
use Rattle.pfs_check_brought.proofs.WalkFacts.{walked}
use Rattle.pfs_check_brought.proofs.judging.judge_dues.Goals as goal

pub returns-in-Some : goal.returns-in-Some
returns-in-Some c = λ case found setting report blocks shape.
    let known =
    walked case found (entries_by c.args.cuts.now c.args.report.now) c.visit_report.new.visitor c.in_ok-_visited._visited
    (ap (λ z. places (all_blocks z)) blocks)
    (c.in_ok-_visited.ensures case found (c.new-bringing.ensures (flags_in case found) (c.in_ok-flags.ensures case found setting blocks))) in
    c.stop_line.ensures case found report shape
    (c.in-Some.ensures (flags_in case found) (entries_of found) known)

pub returns : goal.returns
returns c = λ case found setting report blocks shape.
    let known =
    walked case found (entries_by c.args.cuts.now c.args.report.now) c.visit_report.new.visitor c.in_ok-_visited._visited
    (ap (λ z. places (all_blocks z)) blocks)
    (c.in_ok-_visited.ensures case found (c.new-bringing.ensures (flags_in case found) (c.in_ok-flags.ensures case found setting blocks))) in
    c.in-None.ensures (flags_in case found) (entries_of found) known
