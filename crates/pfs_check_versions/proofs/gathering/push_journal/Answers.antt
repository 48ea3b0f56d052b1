use Rattle.std.proofs.Common.{◌+◌, drop, sym, ◌∙◌, ap, arith}
use Rattle.pfs_check_versions.specs.PlacedChanges.{given_by}
use Rattle.pfs_check_versions.specs.PrintedEntries.{answers_behind, rows_behind}
use Rattle.pfs_check_versions.proofs.PrintedSteps.{entry_more}
use Rattle.pfs_check_versions.proofs.gathering.push_journal.Goals as goal

pub loop-at-preserved : goal.loop-at-preserved
loop-at-preserved c = record {
  rests = entry_more (given_by c.args.what) _ _ c.loop-at.spot.line c.in_ok-spot.spot.line c.args.phase c.args.block.now.session
      c.args.block.now.entries c.loop-at.at c.entry-entry.result c.args.block.now.answers c.loop-at.spot.answer c.in_ok-spot.spot.answer _ _
      c.entry-entry.ensures c.in_ok-push_entry.ensures
      (c.in_ok-spot.ensures.line
      ∙ ap (λ z. c.loop-at.spot.line + 1 + rows_behind c.entry-entry.result (drop c.loop-at.spot.answer z)) c.as_slice.ensures)
      (sym (ap (λ z. drop c.in_ok-spot.spot.answer z) c.as_slice.ensures)
      ∙ c.in_ok-spot.ensures.left
      ∙ ap (λ z. answers_behind c.entry-entry.result (drop c.loop-at.spot.answer z)) c.as_slice.ensures)
      c.loop-at.invariant.rests;
  few = omega (arith, c.in_ok-spot.ensures.few, c.loop-at.invariant.few);
}
