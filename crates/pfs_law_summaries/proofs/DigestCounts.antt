-- What counts by digest by conservation's numbers of events is what counts by the journals.
use Rattle.std.proofs.Common.{◌≡◌, refl, ℕ, ◌≤◌, ◌==◌, ◌&&◌, Bool, true, false, List, length, Option, Some, count_by, fold, filter, sym, ap, ◌∙◌, arith}
use Rattle.pfs_conservation.specs.ActionMoves.{moves_of}
use Rattle.pfs_conservation.specs.RowChains.{with_event}
use Rattle.pfs_conservation.specs.Conservation.{counts_after}
use Rattle.pfs_conservation.specs.DigestClears.{held, clears}
use Rattle.pfs_conservation.specs.PrintedChanges.{chain_of, times_added}
use Rattle.pfs_conservation.specs.Prints.{AreActed}
use Rattle.pfs_conservation.specs.Removals.{removal}
use Rattle.pfs_conservation.specs.KindSummaries.{those_to}
use Rattle.pfs_model.specs.Actions.{IsAmong}
use Rattle.pfs_model.specs.EntryAsks.{digest_row}
use Rattle.pfs_model.specs.Chains.{times}
use Rattle.pfs_model.specs.Contents.{amount_of}
use Rattle.pfs_model.specs.SetupFlags.{is_digested}
use Rattle.pfs_model.specs.SummaryCounts.{is_digest_row}
use Rattle.pfs_stat.specs.Stat.{zero_of, stat_of}
use Rattle.pfs_law_conservation.proofs.AdditionCounts.{numbers_count}
use Rattle.pfs_law_conservation.proofs.RunEntries.{run_once}
use Rattle.pfs_law_conservation.proofs.EventNumbers.{is_number}
use Rattle.pfs_law_conservation.proofs.RowLines.{bit_yes}
use Rattle.pfs_law_conservation.specs.RunDigests.{digest_rows, is_of_digest, digest_home, digest_lines_to, digested_to, digest_home_to, clears_to, digest_counts_to, AreAddedOnce}
use Rattle.pfs_law_conservation.specs.RunEvents.{Ended, number_of, all_ended, of_number, measure_if}
use Rattle.pfs_law_conservation.specs.Premises.{AreKept, IsOrderly}
use Rattle.pfs_law_conservation.specs.RunTerms.{Run, given_in, entries_to, actions_to, sums_to}
use Rattle.pfs_law_conservation.specs.KindLines.{all_lines}
use Rattle.pfs_law_summaries.specs.PhaseSummaries.{past_to}
use Rattle.pfs_law_summaries.specs.DigestSummary.{digest_removal_in, stays_digested, counts_digest, digested_at}
use Rattle.pfs_law_summaries.proofs.Covers.{counts_stays}
use Rattle.pfs_law_summaries.proofs.EventMerges.{IsSame, some_times, each_self, found_self, merged_same}
use Rattle.pfs_law_summaries.proofs.Removals.{removed_here, added_passes}

module _ (run : Run) (phase : ℕ) (kept : AreKept run) (orderly : IsOrderly run)
    (acted : AreActed run.counted (λ action. moves_of held (clears (clears_to run phase) (digest_rows run.setting)) action (digest_rows run.setting)) (length (actions_to run phase)) (digest_lines_to run phase))
    (added : AreAddedOnce run phase) (same_flags : (one : Ended) → is_digested run.flags one.context.slot one.event ≡ is_digested (given_in run).flags one.context.slot one.event) (digest : Option ℕ) where
  abbrev ends : List Ended
  ends = all_ended (entries_to run phase)

  -- one event of those that have ended
  module _ (one : Ended) (among : IsAmong one ends) where
    abbrev row : ℕ
    row = digest_row one.event.subject.digest

    found_one : of_number (number_of one) ends ≡ Some one
    found_one = found_self one ends among (run_once run kept orderly phase one.session one.event.index)

    home : digest_home_to run phase (number_of one) ≡ row
    home = ap digest_home found_one

    -- a digested one is added once to its row
    added_once : is_of_digest run.flags one ≡ true → times_added (number_of one) (digest_lines_to run phase) row ≡ 1
    added_once q =
        added.counted (number_of one)
        (let c : count_by (λ y. number_of one == y) (digested_to run phase) ≡ times (λ o. is_number (number_of one) o && is_of_digest run.flags o) ends = numbers_count (number_of one) (is_of_digest run.flags) ends in
        let l : 1 ≤ times (λ o. is_number (number_of one) o && is_of_digest run.flags o) ends = some_times one (is_of_digest run.flags) ends among q in
        omega (arith, c, l)) row
        ∙ bit_yes (row == digest_home_to run phase (number_of one)) (eq_true row (digest_home_to run phase (number_of one)) (sym home)) where
          eq_true : (a b : ℕ) → a ≡ b → (a == b) ≡ true
          eq_true a b e = grind (arith, e)

    -- its removal is that of the printed lines
    removal_is : is_of_digest run.flags one ≡ true → removal (number_of one) (chain_of (digest_lines_to run phase) (digest_home_to run phase (number_of one))) ≡ digest_removal_in (entries_to run phase) one
    removal_is q =
        ap (λ r. removal (number_of one) (chain_of (digest_lines_to run phase) r)) home
        ∙ removed_here is_digest_row (entries_to run phase) row passes acted.within (acted.once row) one times where
          times : times_added (number_of one) (digest_lines_to run phase) row ≡ 1
          times = added_once q

          passes : is_digest_row row ≡ true
          passes = added_passes is_digest_row (number_of one) row (all_lines (entries_to run phase)) (omega (arith, times))

    -- so it counts by its number just where it counts
    same_count : (is_of_digest run.flags one && digest_counts_to run phase (digest_row digest) (number_of one)) ≡ counts_digest (past_to run phase) digest one
    same_count = at (is_of_digest run.flags one) refl where
      here : is_of_digest run.flags one ≡ true → digest_counts_to run phase (digest_row digest) (number_of one) ≡ ((row == digest_row digest) && stays_digested (past_to run phase) one)
      here q =
          ap (λ r. (r == digest_row digest) && counts_after (removal (number_of one) (chain_of (digest_lines_to run phase) (digest_home_to run phase (number_of one)))) (those_to (clears_to run phase) (length (actions_to run phase)))) home
          ∙ (ap (λ o. (row == digest_row digest) && counts_after o (those_to (clears_to run phase) (length (actions_to run phase)))) (removal_is q)
          ∙ ap (λ b. (row == digest_row digest) && b) (counts_stays (clears_to run phase) (length (actions_to run phase)) (digest_removal_in (entries_to run phase) one)))

      at : (b : Bool) → is_of_digest run.flags one ≡ b → (is_of_digest run.flags one && digest_counts_to run phase (digest_row digest) (number_of one)) ≡ counts_digest (past_to run phase) digest one
      at true q =
          ap (λ b. b && digest_counts_to run phase (digest_row digest) (number_of one)) q
          ∙ (here q ∙ ap (λ b. b && ((row == digest_row digest) && stays_digested (past_to run phase) one)) (sym q ∙ same_flags one))
      at false q =
          ap (λ b. b && digest_counts_to run phase (digest_row digest) (number_of one)) q
          ∙ ap (λ b. b && ((row == digest_row digest) && stays_digested (past_to run phase) one)) (sym q ∙ same_flags one)

    same_amount : (sums_to run phase).of_event (number_of one) ≡ amount_of (given_in run) one.session one.event
    same_amount = ap (λ o. stat_of (measure_if (given_in run) o)) found_one

  pub digests_agree : fold (with_event (sums_to run phase)) zero_of (filter (digest_counts_to run phase (digest_row digest)) (digested_to run phase)) ≡ digested_at (past_to run phase) digest
  digests_agree =
      merged_same (sums_to run phase) (λ a b. refl) (λ one. amount_of (given_in run) one.session one.event) (is_of_digest run.flags) (digest_counts_to run phase (digest_row digest)) (counts_digest (past_to run phase) digest) ends
      (each_self (IsSame (sums_to run phase) (λ a b. refl) (λ one. amount_of (given_in run) one.session one.event) (is_of_digest run.flags) (digest_counts_to run phase (digest_row digest)) (counts_digest (past_to run phase) digest)) ends
      (λ one m. record { same = same_count one m; adds = λ q. same_amount one m })) zero_of
