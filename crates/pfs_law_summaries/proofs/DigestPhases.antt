-- Under each phase's end of a run of a script the summary by digest shows what counts there.
use Rattle.std.proofs.Common.{◌≡◌, ℕ, ◌*◌, ◌+◌, ◌≤◌, ◌<◌, ◌^◌, ◌&&◌, true, nat_le, nat_lt, Option, Some, None, length, filter, refl, ap, ◌∙◌, arith}
use Rattle.std.specs.Prelude.{if◌then◌else◌}
use Rattle.std.specs.Option.{option_map}
use Rattle.std.proofs.lemmas.List.{length-map}
use Rattle.pfs_journal.specs.declared.report.PhaseParts.{PhaseParts}
use Rattle.pfs_model.specs.EntryAsks.{digest_row}
use Rattle.pfs_model.specs.EntryPlaces.{places}
use Rattle.pfs_model.specs.SetupFlags.{is_digested}
use Rattle.pfs_model.specs.SummaryCounts.{is_digest_row}
use Rattle.pfs_law_summaries.specs.OrderlyRuns.{run_of, KeptLaw, OrderlyLaw}
use Rattle.pfs_law_summaries.proofs.LineEnds.{kept_few}
use Rattle.pfs_law_summaries.specs.EndedEvents.{FewEndedLaw}
use Rattle.pfs_law_summaries.specs.EventRanges.{InRangeLaw}
use Rattle.pfs_rows.specs.Tables.{table_name}
use Rattle.pfs_rows.specs.declared.table.Seen.TheVariants.{Whole, Free}
use Rattle.pfs_rows.specs.declared.table.Table.TheVariants.{DigestSummary}
use Rattle.pfs_runs.specs.PhaseFinals.{IsFinal, shown_row, row_version, word_version}
use Rattle.pfs_runs.specs.Labels.{terms_of}
use Rattle.pfs_runs.specs.ScriptLines.{change_in, facts_in}
use Rattle.pfs_runs.specs.Rules.{flags_by}
use Rattle.pfs_runs.specs.Runs.{all_blocks}
use Rattle.pfs_stat.specs.Stat.{stat_of_words}
use Rattle.pfs_stat.specs.declared.Stat.{Stat}
use Rattle.pfs_summaries.specs.FoundContents.{whole_of}
use Rattle.pfs_law_conservation.specs.RunDigests.{is_of_digest, digested_to, DigestActedLaw, DigestAddedLaw, DigestSummedLaw}
use Rattle.pfs_law_conservation.specs.RunEvents.{Ended, number_of, all_ended}
use Rattle.pfs_law_conservation.specs.Premises.{AreKept, IsOrderly, AreInRange}
use Rattle.pfs_law_conservation.specs.RunTerms.{Run, given_in, entries_to, stands_to}
use Rattle.pfs_law_summaries.specs.PhaseSummaries.{past_to}
use Rattle.pfs_law_summaries.specs.DigestSummary.{digested_at, digested_rows, AreDigested, DigestedLaw}
use Rattle.pfs_law_summaries.specs.ReportTables.{rows_named}
use Rattle.pfs_law_summaries.proofs.DigestTable.{digests_shown}
use Rattle.pfs_law_summaries.proofs.DigestCounts.{digests_agree}
use Rattle.pfs_law_summaries.proofs.FreedRows.{never_free}
use Rattle.pfs_law_summaries.proofs.ReportTables.{IsTableRead, AreApartNamed, digest_read, read_shows}
use Rattle.pfs_law_summaries.proofs.RunSummaries.{final_then}
use Rattle.pfs_law_summaries.proofs.InfoReadings.{ArePlaces}

-- the row of a digest is one of those of digests, where it lies below the next rows
digest_passes : (digest : Option ℕ) → digest_row digest < 8450 → is_digest_row (digest_row digest) ≡ true
digest_passes None low = refl
digest_passes (Some place) low = both (8386 + place) (omega arith) low where
  both : (n : ℕ) → 8385 ≤ n → n < 8450 → (nat_le 8385 n && nat_lt n 8450) ≡ true
  both n l h = grind (arith, l, h)

past_cells : (digest : Option ℕ) → 129 ≤ digest_row digest
past_cells None = omega arith
past_cells (Some place) = omega arith

module _ (run : Run) (kept : AreKept run) (orderly : IsOrderly run) (in_range : AreInRange run.facts) (few : (phase : ℕ) → length (all_ended (entries_to run phase)) < 2 ^ 64) (acted : DigestActedLaw) (added : DigestAddedLaw) (sums : DigestSummedLaw)
    (board : ArePlaces) (differ : AreApartNamed) (same_flags : (one : Ended) → is_digested run.flags one.context.slot one.event ≡ is_digested (given_in run).flags one.context.slot one.event) where
  few_digested : (phase : ℕ) → length (digested_to run phase) < 2 ^ 64
  few_digested phase =
      let a = length-map (filter (is_of_digest run.flags) (all_ended (entries_to run phase))) number_of in
      let b = kept_few (is_of_digest run.flags) (all_ended (entries_to run phase)) in
      let c = few phase in
      omega (arith, a, b, c)

  -- what stands in the row of a digest is what counts there
  stands_digested : (phase : ℕ) (digest : Option ℕ) → digest_row digest < 8450 → stands_to run phase (digest_row digest) ≡ digested_at (past_to run phase) digest
  stands_digested phase digest low =
      sums run phase kept orderly in_range (few_digested phase) (digest_row digest) (digest_passes digest low) ∙ digests_agree run phase kept orderly (acted run phase kept) (added run phase kept orderly) same_flags digest

  seen_whole : (phase : ℕ) (digest : Option ℕ) → digest_row digest < 8450 → option_map stat_of_words (whole_of (shown_row run.content (entries_to run phase) (digest_row digest))) ≡ Some (digested_at (past_to run phase) digest)
  seen_whole phase digest low =
      ap (λ b. option_map stat_of_words (whole_of (if b then Free (4 * row_version (entries_to run phase) (digest_row digest)) else Whole (row_version (entries_to run phase) (digest_row digest)) (run.content (digest_row digest) (row_version (entries_to run phase) (digest_row digest))))))
      (never_free run phase kept (digest_row digest) (past_cells digest) low)
      ∙ ap (λ (s : Stat). Some s) (stands_digested phase digest low)

  -- under a phase's end
  pub digested : (flags : ℕ → ℕ → ℕ) (report : PhaseParts) → IsFinal run.setting run.change run.labels run.content flags (entries_to run report.number) report → AreDigested run report
  digested flags report final = on (digest_read differ run.setting final.reads final.order) where
    on : IsTableRead run.setting DigestSummary final.reads → rows_named (table_name DigestSummary) report.tables ≡ digested_rows run.setting (past_to run report.number)
    on r =
        ap (rows_named (table_name DigestSummary)) final.tables
        ∙ (r.rows
        ∙ digests_shown board (shown_row run.content (entries_to run report.number)) (word_version (entries_to run report.number)) (λ word. flags word (word_version (entries_to run report.number) word)) run.setting r.read.readings
        (read_shows run report.number flags DigestSummary final.reads final.each r) (past_to run report.number) (seen_whole report.number))

pub digested_law : KeptLaw → OrderlyLaw → FewEndedLaw → InRangeLaw → DigestActedLaw → DigestAddedLaw → DigestSummedLaw → ArePlaces → AreApartNamed → DigestedLaw
digested_law kept orderly few in_range acted added sums board differ text setting phases report script run =
    final_then _ _ report.phases one run.finals where
      same_flags : (one : Ended) → is_digested (run_of setting phases report run).flags one.context.slot one.event ≡ is_digested (given_in (run_of setting phases report run)).flags one.context.slot one.event
      same_flags one = refl

      one : (part : PhaseParts) → IsFinal (run_of setting phases report run).setting (run_of setting phases report run).change run.labels run.content (flags_by (terms_of setting (change_in phases) (facts_in phases) run.labels) (places (all_blocks run.blocks))) (entries_to (run_of setting phases report run) part.number) part
          → AreDigested (run_of setting phases report run) part
      one part final =
          digested (run_of setting phases report run) (kept setting phases report run) (orderly text setting phases report script run) (in_range text setting phases script) (λ phase. few text setting phases report script run phase) acted added sums board differ same_flags
          (flags_by (terms_of setting (change_in phases) (facts_in phases) run.labels) (places (all_blocks run.blocks))) part final
