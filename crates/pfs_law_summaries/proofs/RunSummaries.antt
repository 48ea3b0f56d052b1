-- Each phase's end of a run of a script.
use Rattle.std.proofs.Common.{◌≡◌, ℕ, zero, suc, ◌+◌, List, [], ◌∷◌, length, Option, Some, None, refl, ap, ◌∙◌, arith}
use Rattle.std.specs.List.{slice_index_or}
use Rattle.std.specs.Option.{option_map}
use Rattle.pfs_classes.specs.declared.setting.Setting.{Setting}
use Rattle.pfs_conservation.specs.CellHolders.{opened_by}
use Rattle.pfs_containers.specs.Connections.{entry_at}
use Rattle.pfs_law_conservation.specs.InfoRowLaws.{ToldLaw, seen_as, containers_to}
use Rattle.pfs_law_conservation.specs.InfoRowLaws.{AreTold as AreSaid}
use Rattle.pfs_containers.specs.InfoWords.{thread_words, account_words, name_words}
use Rattle.pfs_containers.specs.PlaceInfos.{thread_info_of, account_info_of, user_info_of, host_info_of}
use Rattle.pfs_journal.specs.declared.report.PhaseParts.{PhaseParts}
use Rattle.pfs_model.specs.EntryPlaces.{places}
use Rattle.pfs_law_summaries.specs.OrderlyRuns.{run_of, KeptLaw, OrderlyLaw}
use Rattle.pfs_law_script.specs.PlayableBlocks.{NamedLaw}
use Rattle.pfs_law_summaries.specs.EventRanges.{FewLaw, InRangeLaw}
use Rattle.pfs_rows.specs.Tables.{table_name}
use Rattle.pfs_rows.specs.declared.table.Table.{Table}
use Rattle.pfs_runs.specs.PhaseFinals.{IsFinal, shown_row, containers_behind, row_version}
use Rattle.pfs_runs.specs.Labels.{terms_of}
use Rattle.pfs_runs.specs.ScriptLines.{change_in, facts_in}
use Rattle.pfs_runs.specs.Rules.{flags_by}
use Rattle.pfs_runs.specs.Runs.{AreFinal, all_blocks}
use Rattle.pfs_summaries.specs.FoundContents.{whole_of}
use Rattle.pfs_law_conservation.specs.RunActions.{labels_so_far}
use Rattle.pfs_law_conservation.specs.KindRows.{limits_of}
use Rattle.pfs_law_conservation.specs.ConservationLaws.{SummedLaw}
use Rattle.pfs_law_conservation.specs.Premises.{AreKept, IsOrderly}
use Rattle.pfs_law_conservation.specs.RunTerms.{Run, actions_to, entries_to}
use Rattle.pfs_law_summaries.specs.PhaseSummaries.{AreCounted}
use Rattle.pfs_law_summaries.specs.SummaryLaws.{AgreedLaw, CountedLaw}
use Rattle.pfs_law_summaries.proofs.FreedRows.{never_free}
use Rattle.pfs_law_summaries.proofs.ConnectionNames.{script_named}
use Rattle.pfs_law_summaries.proofs.PhaseSummaries.{AreListed, counted}
use Rattle.pfs_law_summaries.proofs.SlotSessions.{seated}
use Rattle.pfs_law_summaries.proofs.SummaryPlaces.{AreNamed}
use Rattle.pfs_law_summaries.proofs.InfoReadings.{AreBack, ArePlaces, AreTold}
use Rattle.pfs_law_summaries.proofs.SummaryPlaces.{none_stands}

-- what stands at a place
entry_is : {X : Type 0} (xs : List (Option X)) (n : ℕ) → slice_index_or xs n None ≡ entry_at xs n
entry_is [] n = refl
entry_is (x ∷ xs) zero = refl
entry_is (x ∷ xs) (suc n) = entry_is xs n

whole_seen : (version : ℕ) (said : Option (List ℕ)) → whole_of (seen_as version said) ≡ said
whole_seen version None = refl
whole_seen version (Some words) = refl

map_twice : {X Y Z : Type 0} (f : X → Y) (g : Y → Z) (o : Option X) → option_map g (option_map f o) ≡ option_map (λ x. g (f x)) o
map_twice f g None = refl
map_twice f g (Some x) = refl

-- the info rows tell who is connected, in the form that the rows of summaries go by
info_told : (run : Run) (phase : ℕ) → AreSaid run phase → AreTold (shown_row run.content (entries_to run phase)) (containers_behind run.setting run.change run.labels (entries_to run phase))
info_told run phase said = record {
  threads = λ t low. ap whole_of (said.threads t low).shown
      ∙ (whole_seen (row_version (entries_to run phase) (1 + t)) _ ∙ ap (option_map (λ x. thread_words (thread_info_of x))) (entry_is (containers_to run phase).places.threads t));
  accounts = λ a low. ap whole_of (said.accounts a low).shown
      ∙ (whole_seen (row_version (entries_to run phase) (33 + a)) _ ∙ (map_twice (account_info_of (containers_to run phase) a) account_words _
      ∙ ap (option_map (λ e. account_words (account_info_of (containers_to run phase) a e))) (entry_is (containers_to run phase).places.accounts a)));
  users = λ u low. ap whole_of (said.users u low).shown
      ∙ (whole_seen (row_version (entries_to run phase) (65 + u)) _ ∙ (map_twice (user_info_of (containers_to run phase) u) name_words _
      ∙ ap (option_map (λ n. name_words (user_info_of (containers_to run phase) u n))) (entry_is (containers_to run phase).places.users u)));
  hosts = λ h low. ap whole_of (said.hosts h low).shown
      ∙ (whole_seen (row_version (entries_to run phase) (97 + h)) _ ∙ (map_twice (host_info_of (containers_to run phase) h) name_words _
      ∙ ap (option_map (λ n. name_words (host_info_of (containers_to run phase) h n))) (entry_is (containers_to run phase).places.hosts h)));
}

opened_named : (setting : Setting) → AreNamed (length setting.names) (opened_by (limits_of setting))
opened_named setting = record {
  account_users = λ a e h. absurd (none_stands setting.limits.accounts a e h);
  account_hosts = λ a e h. absurd (none_stands setting.limits.accounts a e h);
  users = λ u name h. absurd (none_stands setting.limits.users u name h);
  hosts = λ h name e. absurd (none_stands setting.limits.hosts h name e);
}

pub final_then : (P Q : PhaseParts → Type 0) (reports : List PhaseParts) → ((report : PhaseParts) → P report → Q report) → AreFinal P reports → AreFinal Q reports
final_then P Q [] h f = tt
final_then P Q (report ∷ reports) h f = (h report f.0, final_then P Q reports h f.1)

pub counted_law : KeptLaw → OrderlyLaw → NamedLaw → FewLaw → InRangeLaw → SummedLaw → AgreedLaw → ToldLaw → AreBack → ArePlaces → AreListed → ((a b : Table) → table_name a ≡ table_name b → a ≡ b) → CountedLaw
counted_law kept orderly named few in_range sums agreed told back board listed differ text setting phases report script run =
    final_then _ _ report.phases one run.finals where
      is_kept : AreKept (run_of setting phases report run)
      is_kept = kept setting phases report run

      is_orderly : IsOrderly (run_of setting phases report run)
      is_orderly = orderly text setting phases report script run

      one : (part : PhaseParts) → IsFinal (run_of setting phases report run).setting (run_of setting phases report run).change run.labels run.content (flags_by (terms_of setting (change_in phases) (facts_in phases) run.labels) (places (all_blocks run.blocks))) (entries_to (run_of setting phases report run) part.number) part
          → AreCounted (run_of setting phases report run) part
      one part final =
          counted (run_of setting phases report run) is_kept is_orderly (in_range text setting phases script) (λ kind phase. few text setting phases report script run kind phase) sums back board listed differ part.number
          (λ kind. agreed (run_of setting phases report run) kind part.number is_kept is_orderly (few text setting phases report script run kind part.number))
          (info_told (run_of setting phases report run) part.number (told (run_of setting phases report run) part.number is_kept)) (λ row low high. never_free (run_of setting phases report run) part.number is_kept row low (omega (arith, high)))
          (script_named setting phases (named text setting phases script) (opened_by (limits_of setting)) (opened_named setting) (labels_so_far run.labels (entries_to (run_of setting phases report run) part.number)) (length (actions_to (run_of setting phases report run) part.number)))
          (seated (run_of setting phases report run) part.number is_kept is_orderly) (flags_by (terms_of setting (change_in phases) (facts_in phases) run.labels) (places (all_blocks run.blocks))) part refl final
