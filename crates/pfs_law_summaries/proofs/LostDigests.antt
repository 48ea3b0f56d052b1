-- The counter of lost digests shows how many digested statements without a place have ended.
use Rattle.std.proofs.Common.{◌≡◌, ℕ, ◌==◌, ◌&&◌, Bool, true, false, List, [], ◌∷◌, ◌++◌, refl, ap, ◌∙◌, arith}
use Rattle.std.specs.Prelude.{is_none, if◌then◌else◌}
use Rattle.std.specs.List.{flat_map}
use Rattle.std.specs.Str.{bytes_eq}
use Rattle.std.proofs.lemmas.List.Concat.{flat_map-cons}
use Rattle.pfs_classes.specs.Registry.{Registry}
use Rattle.pfs_finals.specs.Counters.{counters, counter_name, lost_by, lost_row}
use Rattle.pfs_finals.specs.declared.counters.Counter.{Counter}
use Rattle.pfs_finals.specs.declared.counters.Counter.TheVariants.{Threads, Accounts, Users, Hosts, Digests, NestedStatements, Lockers, MutexClasses, RwlockClasses, CondClasses, FileClasses, SocketClasses, StageClasses, StatementClasses}
use Rattle.pfs_finals.specs.declared.counters.LostCounters.{LostCounters}
use Rattle.pfs_journal.specs.declared.report.PhaseParts.{PhaseParts}
use Rattle.pfs_journal.specs.declared.values.LostReport.{LostReport}
use Rattle.pfs_model.specs.Chains.{Each}
use Rattle.pfs_model.specs.EntryPlaces.{places}
use Rattle.pfs_model.specs.SetupFlags.{is_digested}
use Rattle.pfs_law_summaries.specs.OrderlyRuns.{run_of, KeptLaw, OrderlyLaw}
use Rattle.pfs_runs.specs.PhaseFinals.{IsFinal, containers_behind, lost_behind}
use Rattle.pfs_runs.specs.Labels.{terms_of}
use Rattle.pfs_runs.specs.ScriptLines.{change_in, facts_in}
use Rattle.pfs_runs.specs.Rules.{flags_by}
use Rattle.pfs_runs.specs.Runs.{all_blocks}
use Rattle.pfs_law_conservation.specs.RunEvents.{Ended, all_ended}
use Rattle.pfs_law_conservation.specs.RunTerms.{given_in, entries_to}
use Rattle.pfs_law_summaries.specs.LostDigests.{counter_named, AreLostDigests, LostDigestsLaw}
use Rattle.pfs_law_summaries.proofs.RunSummaries.{final_then}
use Rattle.pfs_law_summaries.proofs.UnplacedDigests.{lacks_place, run_lost, times_filter}

-- ---- the counter in the report

abbrev later : List Counter
later = NestedStatements ∷ Lockers ∷ MutexClasses ∷ RwlockClasses ∷ CondClasses ∷ FileClasses ∷ SocketClasses ∷ StageClasses ∷ StatementClasses ∷ []

module _ (classes : Registry) (lost : LostCounters) where
  -- a counter of another name stands in no one's way
  skipped : (counter : Counter) (rest : List LostReport) → bytes_eq (counter_name counter) (counter_name Digests) ≡ false → counter_named (counter_name Digests) (lost_row classes lost counter ++ rest) ≡ counter_named (counter_name Digests) rest
  skipped counter rest q = at (lost_by classes lost counter == 0) where
    at : (b : Bool) → counter_named (counter_name Digests) ((if b then [] else record { name = counter_name counter; number = lost_by classes lost counter } ∷ []) ++ rest) ≡ counter_named (counter_name Digests) rest
    at true = refl
    at false = ap (λ b. if b then lost_by classes lost counter else counter_named (counter_name Digests) rest) q

  found : (rest : List LostReport) → counter_named (counter_name Digests) rest ≡ 0 → counter_named (counter_name Digests) (lost_row classes lost Digests ++ rest) ≡ lost.digests
  found rest none = at (lost.digests == 0) refl where
    zero_is : (n : ℕ) → (n == 0) ≡ true → 0 ≡ n
    zero_is n q = grind (arith, q)

    at : (b : Bool) → (lost.digests == 0) ≡ b → counter_named (counter_name Digests) ((if b then [] else record { name = counter_name Digests; number = lost.digests } ∷ []) ++ rest) ≡ lost.digests
    at true q = none ∙ zero_is lost.digests q
    at false q = refl

  skip_all : (others rest : List Counter) → Each (λ counter. bytes_eq (counter_name counter) (counter_name Digests) ≡ false) others
      → counter_named (counter_name Digests) (flat_map (lost_row classes lost) (others ++ rest)) ≡ counter_named (counter_name Digests) (flat_map (lost_row classes lost) rest)
  skip_all [] rest h = refl
  skip_all (counter ∷ others) rest h =
      ap (counter_named (counter_name Digests)) (flat_map-cons (lost_row classes lost) counter (others ++ rest))
      ∙ (skipped counter (flat_map (lost_row classes lost) (others ++ rest)) h.0 ∙ skip_all others rest h.1)

  find_first : (counters : List Counter) → counter_named (counter_name Digests) (flat_map (lost_row classes lost) counters) ≡ 0 → counter_named (counter_name Digests) (flat_map (lost_row classes lost) (Digests ∷ counters)) ≡ lost.digests
  find_first counters none = ap (counter_named (counter_name Digests)) (flat_map-cons (lost_row classes lost) Digests counters) ∙ found (flat_map (lost_row classes lost) counters) none

  pub counter_is : counter_named (counter_name Digests) (flat_map (lost_row classes lost) counters) ≡ lost.digests
  counter_is =
      skip_all (Threads ∷ Accounts ∷ Users ∷ Hosts ∷ []) (Digests ∷ later) (refl, (refl, (refl, (refl, tt))))
      ∙ find_first later (skip_all later [] (refl, (refl, (refl, (refl, (refl, (refl, (refl, (refl, (refl, tt))))))))))

-- ---- under each phase's end

pub lost_digests_law : KeptLaw → OrderlyLaw → LostDigestsLaw
lost_digests_law kept orderly text setting phases report script run =
    final_then _ _ report.phases one run.finals where
      same : (e : Ended) → lacks_place (run_of setting phases report run).flags e ≡ (is_digested (given_in (run_of setting phases report run)).flags e.context.slot e.event && is_none e.event.subject.digest)
      same e = refl

      one : (part : PhaseParts) → IsFinal (run_of setting phases report run).setting (run_of setting phases report run).change run.labels run.content (flags_by (terms_of setting (change_in phases) (facts_in phases) run.labels) (places (all_blocks run.blocks))) (entries_to (run_of setting phases report run) part.number) part
          → AreLostDigests (run_of setting phases report run) part
      one part final =
          ap (counter_named (counter_name Digests)) final.lost
          ∙ (counter_is setting.classes (lost_behind (containers_behind setting (change_in phases) run.labels (entries_to (run_of setting phases report run) part.number)) (entries_to (run_of setting phases report run) part.number))
          ∙ (run_lost (run_of setting phases report run) part.number (kept setting phases report run) (orderly text setting phases report script run)
          ∙ times_filter (lacks_place (run_of setting phases report run).flags) (λ e. is_digested (given_in (run_of setting phases report run)).flags e.context.slot e.event && is_none e.event.subject.digest) same (all_ended (entries_to (run_of setting phases report run) part.number))))
