-- What global summaries show and what was discarded of them, in a run of a script.
use Rattle.std.proofs.Common.{◌≡◌, refl, ℕ, ◌≤◌, ◌<◌, ◌^◌, ◌==◌, Bool, true, false, cond, List, [], ◌∷◌, length, fold, sym, ap, ◌∙◌, arith}
use Rattle.pfs_conservation.specs.KindSummaries.{KeyAll}
use Rattle.pfs_law_conservation.proofs.RunEntries.{run_once}
use Rattle.pfs_law_conservation.specs.ConservationLaws.{ClearedLaw, SummedLaw}
use Rattle.pfs_law_conservation.specs.ConservationLaws.{DiscardedLaw as FoundSums}
use Rattle.pfs_law_conservation.specs.KindRows.{cells_of}
use Rattle.pfs_law_conservation.specs.Premises.{AreInRange, AreKept, IsOrderly}
use Rattle.pfs_law_conservation.specs.RunEvents.{Ended, all_ended, counts_in, measure_if}
use Rattle.pfs_law_conservation.specs.RunTerms.{Run, entries_to, events_to, found_takes, given_in, sums_to}
use Rattle.pfs_law_discarded.specs.DiscardedSums.{DiscardedLaw, IsAccounted}
use Rattle.pfs_law_summaries.specs.EventRanges.{FewLaw, InRangeLaw}
use Rattle.pfs_law_summaries.specs.OrderlyRuns.{KeptLaw, OrderlyLaw, run_of}
use Rattle.pfs_law_summaries.specs.SummaryLaws.{AgreedLaw}
use Rattle.pfs_model.specs.Contents.{amount_of}
use Rattle.pfs_rows.specs.Rows.{row_number}
use Rattle.pfs_rows.specs.declared.place.Place.TheVariants.{GlobalCell}
use Rattle.pfs_rows.specs.declared.table.TableKind.{TableKind}
use Rattle.pfs_stat.specs.Stat.{merge_of, stat_of, zero_of}
use Rattle.pfs_law_discarded.proofs.EventSums.{each_passing, found_self, merged}

bit : (b : Bool) → cond {A = ℕ} b 1 0 ≤ 1
bit true = omega arith
bit false = omega arith

module _ (agreed : AgreedLaw) (summed : SummedLaw) (found : FoundSums) (cleared : ClearedLaw) (run : Run) (kind : TableKind) (phase : ℕ) (kept : AreKept run) (orderly : IsOrderly run) (range : AreInRange run.facts)
    (few : length (events_to run kind phase) < 2 ^ 64) (cell : ℕ) (low : cells_of run.setting kind cell ≡ true) where
  abbrev ends : List Ended
  ends = all_ended (entries_to run phase)

  pub accounted : IsAccounted run phase kind cell
  accounted = record {
    sums =
        ap (λ x. fold merge_of x (found_takes run phase (row_number (GlobalCell cell))))
        (sym (summed run kind phase kept orderly range few KeyAll tt (cell ∷ []) (low, tt) (λ c. omega (arith, bit (cell == c))) ∙ agreed run kind phase kept orderly few KeyAll tt cell low))
        ∙ (found run kind phase kept orderly range few cell low
        ∙ merged (sums_to run phase) (λ one. amount_of (given_in run) one.session one.event) (λ a b. refl) _
        (each_passing _ (counts_in (λ c. c == cell)) ends
        (λ one m. ap (λ o. stat_of (measure_if (given_in run) o)) (found_self one ends m (run_once run kept orderly phase one.session one.event.index)))) zero_of);
    takes = cleared run kind phase kept cell low;
  }

pub discarded_law : KeptLaw → OrderlyLaw → InRangeLaw → FewLaw → AgreedLaw → SummedLaw → FoundSums → ClearedLaw → DiscardedLaw
discarded_law kept orderly range few agreed summed found cleared text setting phases report script run phase kind cell low =
    accounted agreed summed found cleared (run_of setting phases report run) kind phase (kept setting phases report run) (orderly text setting phases report script run) (range text setting phases script)
    (few text setting phases report script run kind phase) cell low
