-- The numbers of digest rows are those of the events that count there.
use Rattle.std.proofs.Common.{◌≡◌, ℕ, ◌<◌, ◌≤◌, ◌^◌, ◌==◌, false, length, Option, ◌∙◌, arith}
use Rattle.std.specs.Prelude.{◌↔◌}
use Rattle.pfs_law_summaries.specs.OrderlyRuns.{run_of}
use Rattle.pfs_law_summaries.proofs.LineEnds.{kept_few}
use Rattle.pfs_law_summaries.specs.EndedEvents.{FewEndedLaw}
use Rattle.pfs_law_summaries.specs.EventRanges.{InRangeLaw}
use Rattle.pfs_stat.specs.Stat.{zero_of}
use Rattle.pfs_law_conservation.specs.RunEvents.{all_ended}
use Rattle.pfs_law_conservation.specs.Premises.{AreInRange}
use Rattle.pfs_law_conservation.specs.RunTerms.{Run, entries_to}
use Rattle.pfs_law_summaries.specs.PhaseSummaries.{past_to}
use Rattle.pfs_law_summaries.specs.DigestNumbers.{AreDigestNumbers, DigestNumbersLaw}
use Rattle.pfs_law_summaries.specs.DigestSummary.{counts_digest, digested_events, digested_at}
use Rattle.pfs_law_summaries.proofs.Extremes.{count_is, one_extremes}

digest_numbers_of : (run : Run) (phase : ℕ) (digest : Option ℕ) → AreInRange run.facts → length (all_ended (entries_to run phase)) < 2 ^ 64 → AreDigestNumbers (past_to run phase) digest
digest_numbers_of run phase digest range few = record {
  count = count;
  shown = some_shown (digested_at (past_to run phase) digest).count (length (digested_events (past_to run phase) digest)) count;
  extremes = one_extremes (past_to run phase).given (λ session index. (range session index).wait) (digested_events (past_to run phase) digest);
} where
  fits : length (digested_events (past_to run phase) digest) < 2 ^ 64
  fits = let l : length (digested_events (past_to run phase) digest) ≤ length (all_ended (entries_to run phase)) = kept_few (counts_digest (past_to run phase) digest) (all_ended (entries_to run phase)) in omega (arith, l, few)

  count : (digested_at (past_to run phase) digest).count ≡ length (digested_events (past_to run phase) digest)
  count = count_is (past_to run phase).given (digested_events (past_to run phase) digest) zero_of (omega (arith, fits)) ∙ (omega arith)

  some_shown : (count many : ℕ) → count ≡ many → ((count == 0) ≡ false) ↔ (0 < many)
  some_shown count many e = ((λ q. grind (arith, e, q)), (λ l. grind (arith, e, l)))

pub digest_numbers_law : FewEndedLaw → InRangeLaw → DigestNumbersLaw
digest_numbers_law few in_range text setting phases report script run phase digest =
    digest_numbers_of (run_of setting phases report run) phase digest (in_range text setting phases script) (few text setting phases report script run phase)
