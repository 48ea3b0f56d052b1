-- Under a phase's end of a run each summary shows what counts there.
use Rattle.std.proofs.Common.{◌≡◌, ℕ, ◌*◌, ◌<◌, ◌≤◌, ◌^◌, ◌==◌, Bool, true, false, List, [], ◌∷◌, length, map, fold, filter, count_by, Option, Some, refl, sym, ap, subst, ◌∙◌, arith, append-nil}
use Rattle.std.specs.Prelude.{◌↔◌, Contains, if◌then◌else◌}
use Rattle.std.specs.List.Sorted.{IsStrictlySortedBy}
use Rattle.std.specs.Map.{keys_of}
use Rattle.std.specs.Option.{option_map}
use Rattle.std.proofs.lemmas.List.{take_all}
use Rattle.pfs_admin.specs.Fold.{state_of}
use Rattle.pfs_board.specs.declared.view.Label.{Label}
use Rattle.pfs_classes.specs.declared.setting.Setting.{Setting}
use Rattle.pfs_conservation.proofs.Connects.{Sound, sound_after}
use Rattle.pfs_conservation.proofs.Ledger.{opened_sound}
use Rattle.pfs_conservation.proofs.NameKeys.{apart_after}
use Rattle.pfs_conservation.specs.AdministrationFold.{numbered, state_after}
use Rattle.pfs_conservation.specs.PlaceRows.{AreApart}
use Rattle.pfs_conservation.specs.CellHolders.{opened_by}
use Rattle.pfs_conservation.specs.KindSummaries.{Key, shown_cell}
use Rattle.pfs_containers.specs.Administration.{Containers}
use Rattle.pfs_containers.specs.Connections.{State, entry_at}
use Rattle.pfs_containers.specs.declared.containers.Connection.{Connection}
use Rattle.pfs_finals.specs.Finals.{is_shown}
use Rattle.pfs_journal.specs.declared.report.PhaseParts.{PhaseParts}
use Rattle.pfs_model.specs.Chains.{is_free_after}
use Rattle.pfs_readsets.specs.TablePlaces.{scope_of, has_cell}
use Rattle.pfs_rows.specs.Tables.{table_name}
use Rattle.pfs_rows.specs.declared.table.Seen.TheVariants.{Whole, Free}
use Rattle.pfs_rows.specs.declared.table.SummaryTable.{SummaryTable}
use Rattle.pfs_rows.specs.declared.table.Table.TheVariants.{Summary}
use Rattle.pfs_rows.specs.declared.table.TableKind.{TableKind}
use Rattle.pfs_runs.specs.PhaseFinals.{IsFinal, containers_behind, shown_row, row_version, word_version}
use Rattle.pfs_runs.specs.Rules.{slot_in}
use Rattle.pfs_stat.specs.Stat.{zero_of, merge_of, merge_all, stat_of_words}
use Rattle.pfs_stat.specs.declared.Stat.{Stat}
use Rattle.pfs_summaries.specs.Cells.{tally_of}
use Rattle.pfs_summaries.specs.FoundContents.{whole_of, is_busy, infos_of}
use Rattle.pfs_summaries.specs.Heads.{row_cmp}
use Rattle.pfs_summaries.specs.Summaries.{IsGiven, ordered_rows}
use Rattle.pfs_summaries.specs.declared.heads.RowKey.{RowKey}
use Rattle.pfs_summaries.specs.declared.tallies.Tally.{Tally}
use Rattle.pfs_law_conservation.proofs.PlaceFolds.{fold_places, length_as}
use Rattle.pfs_law_plain.proofs.SessionPlaces.{fold_well}
use Rattle.pfs_law_conservation.specs.RunActions.{actions_of, labels_so_far, places_behind}
use Rattle.pfs_law_conservation.specs.KindRows.{cells_of, limits_of}
use Rattle.pfs_law_conservation.specs.ConservationLaws.{SummedLaw}
use Rattle.pfs_law_conservation.specs.Premises.{AreKept, IsOrderly, AreInRange}
use Rattle.pfs_law_conservation.specs.RunTerms.{Run, IsKeyOf, actions_to, entries_to, counted_to, events_to, stands_to}
use Rattle.pfs_text.specs.declared.values.RowValue.{RowValue}
use Rattle.pfs_law_summaries.specs.PhaseSummaries.{past_to, AreCounted}
use Rattle.pfs_law_summaries.specs.Counts.{counted_at}
use Rattle.pfs_law_summaries.specs.SummaryKeys.{is_key_of}
use Rattle.pfs_law_summaries.specs.ReportTables.{rows_named}
use Rattle.pfs_law_summaries.specs.SummaryRows.{AreSummed}
use Rattle.pfs_law_summaries.proofs.MergedRows.{rows_at}
use Rattle.pfs_law_summaries.proofs.SummaryRows.{summed}
use Rattle.pfs_law_summaries.proofs.TableReadings.{IsShown}
use Rattle.pfs_law_summaries.proofs.ReportTables.{IsTableRead, AreApartNamed, summary_read, read_shows, rows_shown}
use Rattle.pfs_law_summaries.proofs.SummaryPlaces.{AreNamed, AreSettled, never_hidden, none_stands, placed}
use Rattle.pfs_law_summaries.proofs.InfoReadings.{AreBack, ArePlaces, AreTold}

-- what the rows of summaries have proved of them
pub record AreListed : Type 0 where
  pub ascending : (setting : Setting) (kind : TableKind) (which : SummaryTable) (infos : List (Option (List ℕ))) (tally : ℕ → ℕ → Tally) → IsStrictlySortedBy row_cmp (keys_of (ordered_rows setting kind which infos tally))
  pub given : (setting : Setting) (kind : TableKind) (which : SummaryTable) (infos : List (Option (List ℕ))) (tally : ℕ → ℕ → Tally) (row : RowKey × List RowValue)
      → Contains (ordered_rows setting kind which infos tally) row ↔ IsGiven setting kind which infos tally row

fold_mapped : {X : Type 0} (f : X → Stat) (a : Stat) (xs : List X) → fold merge_of a (map f xs) ≡ fold (λ sum x. merge_of sum (f x)) a xs
fold_mapped f a [] = refl
fold_mapped f a (x ∷ xs) = fold_mapped f (merge_of a (f x)) xs

opened_apart : (setting : Setting) → AreApart (opened_by (limits_of setting))
opened_apart setting = record {
  accounts = λ i j x y p q e. absurd (none_stands setting.limits.accounts i x p);
  users = λ i j x y p q e. absurd (none_stands setting.limits.users i x p);
  hosts = λ i j x y p q e. absurd (none_stands setting.limits.hosts i x p);
}

module _ (run : Run) (kept : AreKept run) (orderly : IsOrderly run) (in_range : AreInRange run.facts) (few : (kind : TableKind) (phase : ℕ) → length (events_to run kind phase) < 2 ^ 64) (sums : SummedLaw)
    (back : AreBack) (places : ArePlaces) (listed : AreListed) (differ : AreApartNamed) (phase : ℕ)
    (agreed : (kind : TableKind) (key : Key) → IsKeyOf run key → (cell : ℕ) → cells_of run.setting kind cell ≡ true → counted_to run kind phase key (cell ∷ []) ≡ counted_at (past_to run phase) kind key cell)
    (told : AreTold (shown_row run.content (entries_to run phase)) (containers_behind run.setting run.change run.labels (entries_to run phase)))
    (whole : (row : ℕ) → 129 ≤ row → row < 8385 → is_free_after (entries_to run phase) row ≡ false) (named : AreNamed (length run.setting.names) (places_behind run.setting (actions_to run phase)))
    (seated : (slot : ℕ) (x : Connection) → entry_at (places_behind run.setting (actions_to run phase)).threads slot ≡ Some x → slot_in run.blocks x.number ≡ Some slot) where
  abbrev containers : Containers
  containers = containers_behind run.setting run.change run.labels (entries_to run phase)

  abbrev labels : List Label
  labels = labels_so_far run.labels (entries_to run phase)

  abbrev behind : State
  behind = places_behind run.setting (actions_to run phase)

  -- the administration's places are those that conservation goes by
  places_are : containers.places ≡ behind
  places_are =
      ap (λ (ls : List Label). (state_of run.setting run.change ls).kept.now.places) (sym (take_all (length labels) labels (omega arith)))
      ∙ (fold_places run.setting run.change labels (length labels) (omega arith)
      ∙ ap (λ n. state_after (opened_by (limits_of run.setting)) (numbered (actions_of run.change labels)) n) (sym (length_as _ labels)))

  settled : AreSettled run.setting (IsKeyOf run) containers
  settled = record {
    well = fold_well run.setting run.change labels;
    sound = subst Sound (sym places_are) (sound_after (opened_by (limits_of run.setting)) (opened_sound (limits_of run.setting)) (numbered (actions_to run phase)) (length (actions_to run phase)));
    apart = subst AreApart (sym places_are) (apart_after (opened_by (limits_of run.setting)) (opened_sound (limits_of run.setting)) (opened_apart run.setting) (numbered (actions_to run phase)) (length (actions_to run phase)));
    named = subst (AreNamed (length run.setting.names)) (sym places_are) named;
    seated = λ t x e. seated t x (ap (λ (s : State). entry_at s.threads t) (sym places_are) ∙ e);
    slots = λ session p q a b. some_is p q (sym a ∙ b);
    accounts = λ user host. tt;
    users = λ user. tt;
    hosts = λ host. tt;
    all = tt;
  } where
    some_is : (a b : ℕ) → ◌≡◌ {A = Option ℕ} (Some a) (Some b) → a ≡ b
    some_is a b h = cc

  -- what a key shows of a cell is what counts there
  merged : (kind : TableKind) (which : SummaryTable) (key : Key) → is_key_of which key ≡ true → IsKeyOf run key → (cell : ℕ) → cell < 64 → has_cell (scope_of run.setting) (Summary kind which) cell ≡ true
      → merge_all (map (stands_to run phase) (shown_cell key (rows_at cell) containers.places)) ≡ counted_at (past_to run phase) kind key cell
  merged kind which key of_table asked cell low is_cell =
      fold_mapped (stands_to run phase) zero_of (shown_cell key (rows_at cell) containers.places)
      ∙ (ap (λ (s : State). fold (λ sum row. merge_of sum (stands_to run phase row)) zero_of (shown_cell key (rows_at cell) s)) places_are
      ∙ (ap (λ (l : List ℕ). fold (λ sum row. merge_of sum (stands_to run phase row)) zero_of l) (sym (append-nil (shown_cell key (rows_at cell) behind)))
      ∙ (sums run kind phase kept orderly in_range (few kind phase) key asked (cell ∷ []) (is_cell, tt) once ∙ agreed kind key asked cell is_cell))) where
        once : (other : ℕ) → count_by (λ c. c == other) (cell ∷ []) ≤ 1
        once other = at (cell == other) refl where
          at : (b : Bool) → (cell == other) ≡ b → count_by (λ c. c == other) (cell ∷ []) ≤ 1
          at true q = grind (arith, q)
          at false q = grind (arith, q)

  seen_whole : (row : ℕ) → 129 ≤ row → row < 8385 → option_map stat_of_words (whole_of (shown_row run.content (entries_to run phase) row)) ≡ Some (stands_to run phase row)
  seen_whole row low high =
      ap (λ b. option_map stat_of_words (whole_of (if b then Free (4 * row_version (entries_to run phase) row) else Whole (row_version (entries_to run phase) row) (run.content row (row_version (entries_to run phase) row))))) (whole row low high)

  never_busy : (row : ℕ) → is_busy (shown_row run.content (entries_to run phase) row) ≡ false
  never_busy row = at (is_free_after (entries_to run phase) row) where
    at : (b : Bool) → is_busy (if b then Free (4 * row_version (entries_to run phase) row) else Whole (row_version (entries_to run phase) row) (run.content row (row_version (entries_to run phase) row))) ≡ false
    at true = refl
    at false = refl

  -- under the phase's end
  pub counted : (flags : ℕ → ℕ → ℕ) (report : PhaseParts) → report.number ≡ phase → IsFinal run.setting run.change run.labels run.content flags (entries_to run phase) report → AreCounted run report
  counted flags report number final kind which = on (summary_read differ run.setting kind which final.reads final.order) where
    on : IsTableRead run.setting (Summary kind which) final.reads → AreSummed run.setting kind which (IsKeyOf run) (counted_at (past_to run report.number) kind) (rows_named (table_name (Summary kind which)) report.tables)
    on r =
        subst (λ n. AreSummed run.setting kind which (IsKeyOf run) (counted_at (past_to run n) kind) (rows_named (table_name (Summary kind which)) report.tables)) (sym number)
        (subst (AreSummed run.setting kind which (IsKeyOf run) (counted_at (past_to run phase) kind)) (sym rows_are)
        (summed run.setting kind which (IsKeyOf run) (counted_at (past_to run phase) kind) containers.places (infos_of r.read.readings) (tally_of which (infos_of r.read.readings) r.read.readings)
        (placed back places (shown_row run.content (entries_to run phase)) (word_version (entries_to run phase)) (λ word. flags word (word_version (entries_to run phase) word)) run.setting kind r.read.readings containers told (IsKeyOf run) settled never_busy (stands_to run phase) seen_whole (counted_at (past_to run phase) kind) (merged kind) which shown)
        (listed.given run.setting kind which (infos_of r.read.readings) (tally_of which (infos_of r.read.readings) r.read.readings)) (listed.ascending run.setting kind which (infos_of r.read.readings) (tally_of which (infos_of r.read.readings) r.read.readings)))) where
          shown : IsShown (shown_row run.content (entries_to run phase)) (word_version (entries_to run phase)) (λ word. flags word (word_version (entries_to run phase) word)) (scope_of run.setting) (Summary kind which) r.read.readings
          shown = read_shows run phase flags (Summary kind which) final.reads final.each r

          rows_are : rows_named (table_name (Summary kind which)) report.tables
              ≡ filter (is_shown (Summary kind which)) (map (λ (row : RowKey × List RowValue). row.1) (ordered_rows run.setting kind which (infos_of r.read.readings) (tally_of which (infos_of r.read.readings) r.read.readings)))
          rows_are =
              ap (rows_named (table_name (Summary kind which))) final.tables
              ∙ (r.rows
              ∙ ap (filter (is_shown (Summary kind which))) (rows_shown run.setting kind which r.read.readings (never_hidden back places (shown_row run.content (entries_to run phase)) (word_version (entries_to run phase)) (λ word. flags word (word_version (entries_to run phase) word)) run.setting kind r.read.readings containers told (IsKeyOf run) settled never_busy (stands_to run phase) seen_whole (counted_at (past_to run phase) kind) which shown)))
