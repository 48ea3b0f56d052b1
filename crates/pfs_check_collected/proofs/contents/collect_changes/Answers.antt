use Rattle.std.proofs.Common.{[], ◌∙◌, ap, subst, sym}
use Rattle.pfs_law_contexts.specs.TakenSources.{AreTakenBehind}
use Rattle.pfs_law_contexts.specs.ToldContexts.{AreToldBehind}
use Rattle.pfs_law_orderly.specs.HeldEvents.{AreHeldBehind}
use Rattle.pfs_model.specs.EntryPlaces.{places}
use Rattle.pfs_runs.specs.Runs.{all_blocks}
use Rattle.pfs_check_visits.specs.ReportVisits.{entries_by}
use Rattle.pfs_check_collected.specs.CollectedChanges.{given_in}
use Rattle.pfs_check_collected.proofs.CollectSteps.{all_collected, none_noted}
use Rattle.pfs_check_collected.proofs.contents.collect_changes.Goals as goal

pub returns : goal.returns
returns c = λ case found report blocks shape actions events tags.
    let same = ap (λ z. places (all_blocks z)) blocks in
    all_collected (given_in case found) found (entries_by c.args.cuts.now c.args.report.now) c.visit_report.new.visitor c.in_ok-_visited._visited same
    (subst (AreToldBehind []) same (c.contexts.ensures (all_blocks found.blocks) shape.shaped))
    (subst (AreTakenBehind []) same (c.sources.ensures (all_blocks found.blocks) shape.shaped actions.numbers))
    (subst (AreHeldBehind []) same (c.held.ensures (all_blocks found.blocks)))
    (c.in_ok-_visited.ensures case found (record {
      events = events;
      tags = tags;
      gathered = λ framed. record {
        notes = none_noted c.new.result c.new.ensures.empty;
        held = c.new-2.ensures (given_in case found);
        collected = c.new-3.ensures (given_in case found);
      };
    }))
