-- A current place shows its last put, unless it was released since: of each run.
use Rattle.std.proofs.Common.{◌≡◌, refl, ℕ, ◌+◌, ◌*◌, ◌<◌, ◌≤◌, ◌&&◌, nat_le, nat_lt, Bool, true, false, [], Some, sym, ap, subst, ◌∙◌, inl, arith}
use Rattle.pfs_event.specs.declared.entry.Entry.{Entry}
use Rattle.pfs_event.specs.declared.entry.Entry.TheVariants as says
use Rattle.pfs_journal.specs.declared.report.PhaseParts.{PhaseParts}
use Rattle.pfs_model.specs.Actions.{IsAmong}
use Rattle.pfs_model.specs.Chains.{Each, IsChained, change_at, each_of, release_of, row_change}
use Rattle.pfs_model.specs.EntryPlaces.{places}
use Rattle.pfs_model.specs.Rings.{shown_at}
use Rattle.pfs_model.specs.declared.changes.Change.{Change}
use Rattle.pfs_law_summaries.specs.OrderlyRuns.{run_of, KeptLaw, OrderlyLaw}
use Rattle.pfs_runs.specs.PhaseFinals.{IsFinal}
use Rattle.pfs_runs.specs.Labels.{terms_of}
use Rattle.pfs_runs.specs.ScriptLines.{change_in, facts_in}
use Rattle.pfs_runs.specs.Rules.{flags_by}
use Rattle.pfs_runs.specs.Runs.{all_blocks}
use Rattle.pfs_law_conservation.specs.Premises.{AreKept, IsOrderly}
use Rattle.pfs_law_conservation.specs.RunTerms.{Run, entries_to}
use Rattle.pfs_law_summaries.proofs.RingChanges.{is_put}
use Rattle.pfs_law_summaries.proofs.EntryYields.{IsGiven, given_as, given_in, given_out}
use Rattle.pfs_law_summaries.proofs.ReleaseVersions.{releases_had}
use Rattle.pfs_law_summaries.proofs.HistoryPlaces.{last_version}
use Rattle.pfs_law_summaries.proofs.LastVersions.{IsLasting, lasting_shown, shown_lasting}
use Rattle.pfs_law_summaries.proofs.LastPuts.{in_chain, of_chain}
use Rattle.pfs_law_summaries.proofs.RunSummaries.{final_then}
use Rattle.pfs_law_summaries.specs.CurrentPlaces.{CurrentLaw, CurrentsLaw, HasCurrents, IsLastPut, ShowsCurrent, is_current_row, put_at}

-- a put is a change
put_changes : (x : Change) (e : Entry) → IsAmong x (put_at e) → IsAmong x (row_change e)
put_changes x (says.Ring row version) m = m
put_changes x _ m = absurd m

current_range : (slot row : ℕ) → is_current_row slot row ≡ true → slot < 32 → (8450 ≤ row) × (row < 10242)
current_range slot row q l = on (nat_le (8450 + 56 * slot) row) refl (nat_lt row (8450 + 56 * slot + 16)) refl (sym q) where
  above : (low row : ℕ) → nat_le low row ≡ true → low ≤ row
  above low row q = grind arith

  below : (row high : ℕ) → nat_lt row high ≡ true → row < high
  below row high q = grind arith

  on : (a : Bool) → nat_le (8450 + 56 * slot) row ≡ a → (b : Bool) → nat_lt row (8450 + 56 * slot + 16) ≡ b → true ≡ nat_le (8450 + 56 * slot) row && nat_lt row (8450 + 56 * slot + 16) → (8450 ≤ row) × (row < 10242)
  on true a true b e = (let k : 8450 + 56 * slot ≤ row = above (8450 + 56 * slot) row a in omega (arith, k), let k : row < 8450 + 56 * slot + 16 = below row (8450 + 56 * slot + 16) b in omega (arith, k, l))
  on true a false b e = absurd (let f : true ≡ false = e ∙ (ap (λ z. z && nat_lt row (8450 + 56 * slot + 16)) a ∙ b) in cc)
  on false a b c e = absurd (let f : true ≡ false = e ∙ ap (λ z. z && nat_lt row (8450 + 56 * slot + 16)) a in cc)

module _ (run : Run) (kept : AreKept run) (orderly : IsOrderly run) (phase row : ℕ) (low : 8450 ≤ row) (high : row < 10242) where
  chain : IsChained (each_of row_change (entries_to run phase))
  chain = kept.rules.joint.rows phase

  had : Each (λ (release : Change). release.row ≡ row → release.version ≤ last_version (entries_to run phase) row) (each_of release_of (entries_to run phase))
  had = releases_had phase row (places run.blocks) [] (places run.blocks) kept.rules.joint.floored

  -- each change of the place is a put
  puts : (version : ℕ) → IsAmong (change_at row version) (each_of row_change (entries_to run phase)) → IsAmong (change_at row version) (each_of put_at (entries_to run phase))
  puts version m =
      let g : IsGiven row_change (change_at row version) (entries_to run phase) = given_out row_change (change_at row version) (entries_to run phase) m in
      let e : g.place.entry ≡ says.Ring row version = is_put run kept orderly phase g.place g.among row version low high g.gives in
      given_in put_at (change_at row version) g.place (entries_to run phase) g.among (subst (λ z. IsAmong (change_at row version) (put_at z)) (sym e) (inl refl))

  range : (version : ℕ) → IsAmong (change_at row version) (each_of put_at (entries_to run phase)) → (1 ≤ version) × (version ≤ last_version (entries_to run phase) row)
  range version m =
      in_chain row version (each_of row_change (entries_to run phase)) chain
      (given_as put_at row_change (change_at row version) (change_at row version) (put_changes (change_at row version)) (entries_to run phase) m)

  top : 1 ≤ last_version (entries_to run phase) row → IsAmong (change_at row (last_version (entries_to run phase) row)) (each_of put_at (entries_to run phase))
  top l = puts (last_version (entries_to run phase) row) (of_chain row (last_version (entries_to run phase) row) (each_of row_change (entries_to run phase)) chain l (omega arith))

  last_put : (version : ℕ) → IsLasting (entries_to run phase) row version → IsLastPut (entries_to run phase) row version
  last_put version s = record {
    put = subst (λ n. IsAmong (change_at row n) (each_of put_at (entries_to run phase))) (sym s.last) (top (subst (λ n. 1 ≤ n) s.last s.positive));
    last = λ other m. let h : other ≤ last_version (entries_to run phase) row = (range other m).1 in let e : version ≡ last_version (entries_to run phase) row = s.last in omega (arith, h, e);
    kept = s.kept;
  }

  stands : (version : ℕ) → IsLastPut (entries_to run phase) row version → shown_at (entries_to run phase) row ≡ Some version
  stands version p = lasting_shown (entries_to run phase) row low had version same (range version p.put).0 p.kept where
    same : version ≡ last_version (entries_to run phase) row
    same =
        let r : (1 ≤ version) × (version ≤ last_version (entries_to run phase) row) = range version p.put in
        let l : 1 ≤ version = r.0 in
        let h : version ≤ last_version (entries_to run phase) row = r.1 in
        let t : last_version (entries_to run phase) row ≤ version = p.last (last_version (entries_to run phase) row) (top (omega (arith, l, h))) in
        omega (arith, h, t)

  pub shows_current : (version : ℕ) → ShowsCurrent (entries_to run phase) row version
  shows_current version = record {
    last = λ s. last_put version (shown_lasting (entries_to run phase) row low had version s);
    shown = stands version;
  }

pub current_law : CurrentLaw
current_law run phase slot kept orderly few row own version =
    let r : (8450 ≤ row) × (row < 10242) = current_range slot row own few in
    shows_current run kept orderly phase row r.0 r.1 version

-- of each script
pub currents_law : KeptLaw → OrderlyLaw → CurrentLaw → CurrentsLaw
currents_law kept orderly current text setting phases report script run =
    final_then _ _ report.phases one run.finals where
      one : (part : PhaseParts) → IsFinal (run_of setting phases report run).setting (run_of setting phases report run).change run.labels run.content (flags_by (terms_of setting (change_in phases) (facts_in phases) run.labels) (places (all_blocks run.blocks))) (entries_to (run_of setting phases report run) part.number) part
          → HasCurrents (run_of setting phases report run) part
      one part final slot row version few own =
          current (run_of setting phases report run) part.number slot (kept setting phases report run) (orderly text setting phases report script run) few row own version
