-- What the summary by digest shows under a phase's end, by the journals alone.
use Rattle.std.specs.Prelude.{ℕ, ◌≡◌, ◌==◌, ◌&&◌, cond, Bool, List, [], ◌∷◌, ◌++◌, length, map, filter, Option, Some, None, slice_get}
use Rattle.std.specs.List.{flat_map, range_with_len}
use Rattle.pfs_classes.specs.declared.setting.DigestText.{DigestText}
use Rattle.pfs_classes.specs.declared.setting.Setting.{Setting}
use Rattle.pfs_journal.specs.declared.report.PhaseParts.{PhaseParts}
use Rattle.pfs_journal.specs.declared.report.ReportParts.{ReportParts}
use Rattle.pfs_model.specs.EntryAsks.{digest_row}
use Rattle.pfs_model.specs.Contents.{amount_of}
use Rattle.pfs_model.specs.EntryPlaces.{Placed}
use Rattle.pfs_model.specs.SetupFlags.{is_digested}
use Rattle.pfs_model.specs.SummaryCounts.{Addition, additions_of, stays_counted}
use Rattle.pfs_law_summaries.specs.OrderlyRuns.{run_of}
use Rattle.pfs_rows.specs.Tables.{table_name}
use Rattle.pfs_rows.specs.declared.table.Table.TheVariants.{DigestSummary}
use Rattle.pfs_runs.specs.Runs.{IsRun, AreFinal}
use Rattle.pfs_script.specs.Scripts.{IsScript}
use Rattle.pfs_script.specs.declared.blocks.Phase.{Phase}
use Rattle.pfs_stat.specs.Stat.{merge_all}
use Rattle.pfs_stat.specs.declared.Stat.{Stat}
use Rattle.pfs_summaries.specs.DigestRows.{digest_heading, null_heading}
use Rattle.pfs_summaries.specs.RowValues.{values_of}
use Rattle.pfs_summaries.specs.declared.numbers.Numbers.TheVariants as numbers
use Rattle.pfs_law_conservation.specs.RunEvents.{Ended, all_ended}
use Rattle.pfs_law_conservation.specs.RunTerms.{Run}
use Rattle.pfs_text.specs.declared.values.RowValue.{RowValue}
use Rattle.pfs_law_summaries.specs.PhaseSummaries.{past_to}
use Rattle.pfs_law_summaries.specs.Counts.{Past, removal_behind}
use Rattle.pfs_law_summaries.specs.ReportTables.{rows_named}

-- an addition of just this event to the row of its digest
abbrev pub is_digest_addition_of : Ended → Addition → Bool
is_digest_addition_of one addition =
    (addition.row == digest_row one.event.subject.digest)
    && ((addition.session == one.session) && (addition.event.index == one.event.index))

-- the first action that took this row at a version above the one at which the event was added; none where no action did
abbrev pub digest_removal_in : List Placed → Ended → Option ℕ
digest_removal_in entries one = removal_behind entries (filter (is_digest_addition_of one) (additions_of entries))

-- no TRUNCATE of the summary by digest has the number of the event's removal or a later one
abbrev pub stays_digested : Past → Ended → Bool
stays_digested past one = stays_counted past.clears (length past.actions) (digest_removal_in past.entries one)

-- A statement that has ended counts in the row of its digest where it was digested, and stays there: that of the place
-- of its digest text, and without a place the row of all those that have none.
abbrev pub counts_digest : Past → Option ℕ → Ended → Bool
counts_digest past digest one =
    is_digested past.given.flags one.context.slot one.event
    && ((digest_row one.event.subject.digest == digest_row digest) && stays_digested past one)

abbrev pub digested_events : Past → Option ℕ → List Ended
digested_events past digest = filter (counts_digest past digest) (all_ended past.entries)

-- what they add up to
abbrev pub digested_at : Past → Option ℕ → Stat
digested_at past digest =
    merge_all (map (λ one. amount_of past.given one.session one.event) (digested_events past digest))

-- a row where something counts: its digest and its text, and the numbers
abbrev pub digested_row : List RowValue → Stat → List (List RowValue)
digested_row heading stat = cond (stat.count == 0) [] ((heading ++ values_of (numbers.Statements stat)) ∷ [])

abbrev pub place_digested : Past → Option DigestText → ℕ → List (List RowValue)
place_digested past None place = []
place_digested past (Some digest) place = digested_row (digest_heading digest) (digested_at past (Some place))

-- the table: first the row of the texts without a place, then the places in their order, each where something counts
abbrev pub digested_rows : Setting → Past → List (List RowValue)
digested_rows setting past = digested_row null_heading (digested_at past None)
    ++ flat_map (λ place. place_digested past (slice_get setting.digests place) place) (range_with_len 0 64)

abbrev pub AreDigested : Run → PhaseParts → Type 0
AreDigested run phase =
    rows_named (table_name DigestSummary) phase.tables ≡ digested_rows run.setting (past_to run phase.number)

-- under the end of each phase of a run
abbrev pub AllAreDigested : (setting : Setting) (phases : List Phase) (report : ReportParts)
    → IsRun setting phases report → Type 0
AllAreDigested setting phases report run = AreFinal (AreDigested (run_of setting phases report run)) report.phases

abbrev pub DigestedLaw : Type 0
DigestedLaw = (text : List ℕ) (setting : Setting) (phases : List Phase) (report : ReportParts)
    → IsScript text setting phases → (run : IsRun setting phases report)
    → AllAreDigested setting phases report run
