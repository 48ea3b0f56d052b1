use Rattle.std.proofs.Common.{arith}
use Rattle.pfs_view.proofs.OutcomeSteps.{counted_start, counted_more, counted_end}
use Rattle.pfs_view.proofs.replies.outcome_count.Goals as goal

pub loop-place-init : goal.loop-place-init
loop-place-init c = counted_start c.args.entries.now

pub loop-place-preserved : goal.loop-place-preserved
loop-place-preserved c = counted_more c.args.entries.now c.loop-place.place c.loop-place.count c.entry-entry.result _ c.entry-entry.ensures c.outcomes_behind-count.ensures c.loop-place.invariant

pub returns : goal.returns
returns c = counted_end c.args.entries.now c.loop-place.place c.loop-place.count (omega arith) c.loop-place.invariant
