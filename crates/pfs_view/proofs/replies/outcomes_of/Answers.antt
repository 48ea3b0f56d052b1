use Rattle.std.proofs.Common.{arith}
use Rattle.pfs_view.proofs.OutcomeSteps.{outcomes_start, outcomes_more, outcomes_end}
use Rattle.pfs_view.proofs.replies.outcomes_of.Goals as goal

pub loop-place-init : goal.loop-place-init
loop-place-init c = rw c.new-outcomes.ensures.items (outcomes_start c.args.entries.now)

pub loop-place-preserved : goal.loop-place-preserved
loop-place-preserved c = outcomes_more c.args.entries.now c.loop-place.place c.loop-place.answers c.entry-entry.result c.loop-place.outcomes.items _ _ c.entry-entry.ensures c.in_ok-put_outcome.ensures c.answers_behind-answers.ensures c.loop-place.invariant

pub returns : goal.returns
returns c = outcomes_end c.args.entries.now c.loop-place.place c.loop-place.answers c.loop-place.outcomes.items (omega arith) c.loop-place.invariant
