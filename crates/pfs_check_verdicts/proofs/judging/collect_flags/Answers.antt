use Rattle.std.proofs.Common.{ap, subst, sym, []}
use Rattle.pfs_model.specs.EntryPlaces.{places}
use Rattle.pfs_runs.specs.Runs.{all_blocks}
use Rattle.pfs_check_visits.specs.ReportVisits.{entries_by}
use Rattle.pfs_check_verdicts.specs.PrintedSets.{AreFlagsSoFar}
use Rattle.pfs_check_verdicts.proofs.FlagFacts.{flags_collected}
use Rattle.pfs_check_verdicts.proofs.judging.collect_flags.Goals as goal

pub returns : goal.returns
returns c = λ case found setting blocks.
    flags_collected case found (entries_by c.args.cuts.now c.args.report.now) c.visit_report.new.visitor.flags c.in_ok-_visited._visited
    (ap (λ z. places (all_blocks z)) blocks)
    (c.in_ok-_visited.ensures case found
    (subst (λ z. AreFlagsSoFar z [] c.in_ok-flags.flags) (sym setting) c.in_ok-flags.ensures))
