-- What is kept of the ends of a report shows what stands there.
use Rattle.std.proofs.Common.{◌≡◌, ℕ, zero, suc, ◌+◌, ◌*◌, ◌<◌, ◌^◌, ◌==◌, Bool, true, false, ◌&&◌, ◌||◌, cond, List, [], ◌∷◌, length, refl, ap, sym, ◌∙◌, arith}
use Rattle.std.specs.BTreeMap.{get}
use Rattle.pfs_check_contents.specs.KeptContents.{IsShelfOf, content_at}
use Rattle.pfs_check_faults.specs.ReportCases.{Case, Findings, entries_of, flags_in, terms_in}
use Rattle.pfs_check_finals.specs.EndTables.{AreEndsOf}
use Rattle.pfs_check_floors.specs.ReleasedRows.{change_cmp, freed_by}
use Rattle.pfs_check_verdicts.specs.PrintedSets.{GivesFlags}
use Rattle.pfs_check_visits.specs.Visits.{AreVisited}
use Rattle.pfs_check_visits.specs.declared.visited.Visited.{Visited}
use Rattle.pfs_check_visits.specs.declared.visited.Visited.TheVariants.{Kept, Lacking}
use Rattle.pfs_check_walk.specs.Walks.{LacksFirst}
use Rattle.pfs_model.specs.Chains.{change_at, is_free_after, opens_free}
use Rattle.pfs_model.specs.EntryPlaces.{Placed, up_to_phase}
use Rattle.pfs_readsets.specs.declared.target.Target.{Target}
use Rattle.pfs_readsets.specs.declared.target.Target.TheVariants.{Row, Word}
use Rattle.pfs_rows.specs.declared.table.Reading.{Reading}
use Rattle.pfs_rows.specs.declared.table.Reading.TheVariants as readings
use Rattle.pfs_rows.specs.declared.table.Seen.TheVariants.{Free, Whole}
use Rattle.pfs_runs.specs.PhaseFinals.{row_version, word_version}
use Rattle.pfs_runs.specs.Rules.{given_by}
use Rattle.pfs_runs.specs.Runs.{all_blocks}
use Rattle.pfs_check_ends.specs.EndSights.{AreFewSights, IsFew}
use Rattle.pfs_check_ends.specs.StandingEnds.{Shows}
use Rattle.pfs_check_ends.specs.declared.ends.Ends.{Ends}
use Rattle.pfs_check_ends.proofs.EndVersions.{free_is, version_few, version_had}
use Rattle.pfs_check_ends.proofs.FittingFlags.{FlagsFit}

-- ---- so few entries were visited

none_lack : (earlier places : List Placed) (at : ℕ) → LacksFirst (λ earlier place. Unit {0}) earlier places at → ⊥
none_lack earlier [] at l = l
none_lack earlier (place ∷ places) zero l = l tt
none_lack earlier (place ∷ places) (suc at) l = none_lack (place ∷ earlier) places at l.1

pub few_visited : (all places : List Placed) (knows : List Placed → Type 0) (told : Type 0) (visited : Visited) → all ≡ places → AreVisited (λ earlier place. Unit {0}) [] places knows told visited → IsFew visited → length all < 2 ^ 62
few_visited all places knows told (Kept count) same v few = let count_is = v.0.count_is in let length_is : length all ≡ length places = ap length same in omega (arith, few, count_is, length_is)
few_visited all places knows told (Lacking at) same v few = absurd (none_lack [] places at v)

-- ---- what is shown

module _ (ends : Ends) (shown : ℕ → Target → Reading) (s : Shows ends shown) (phase row version : ℕ) (v : version ≡ row_version (up_to_phase phase s.all) row)
    (free : Bool) (f : free ≡ (freed_by (get change_cmp ends.sights.rows.releases.freed (change_at row version)) (phase + 1) || ((version == 0) && opens_free row))) where
  shown_row_is : readings.Slot row (cond free (Free (4 * version)) (Whole version (s.content row version))) ≡ shown phase (Row row)
  shown_row_is =
      ap (λ b. readings.Slot row (cond b (Free (4 * version)) (Whole version (s.content row version)))) (f ∙ free_is s.all ends.sights.rows.releases.freed phase row version s.sights.sights_are.rows.releases.freed v)
      ∙ (ap (λ n. readings.Slot row (cond (is_free_after (up_to_phase phase s.all) row) (Free (4 * n)) (Whole n (s.content row n)))) v
      ∙ sym (s.each phase (Row row)))

  pub row_free : (word : ℕ) → free ≡ true → (version < 2 ^ 62 → word ≡ 4 * version) → readings.Slot row (Free word) ≡ shown phase (Row row)
  row_free word is_free fits =
      let few = s.sights.few in
      let most = version_few s.all phase row in
      ap (λ n. readings.Slot row (Free n)) (fits (omega (arith, v, few, most)))
      ∙ (sym (ap (λ b. readings.Slot row (cond b (Free (4 * version)) (Whole version (s.content row version)))) is_free) ∙ shown_row_is)

  pub row_whole : (content : List ℕ) → free ≡ false → content ≡ content_at ends.shelf row version → readings.Slot row (Whole version content) ≡ shown phase (Row row)
  row_whole content there is =
      ap (λ (z : List ℕ). readings.Slot row (Whole version z)) (is ∙ s.contents row version (version_had s.all phase row version s.sights.sights_are.rows.floors.chained v))
      ∙ (sym (ap (λ b. readings.Slot row (cond b (Free (4 * version)) (Whole version (s.content row version)))) there) ∙ shown_row_is)

pub word_shown : (ends : Ends) (shown : ℕ → Target → Reading) (s : Shows ends shown) (phase word version flags : ℕ) → version ≡ word_version (up_to_phase phase s.all) word
    → ((given : ℕ → ℕ → ℕ) → GivesFlags given ends.flags → given word version < 2 ^ 16 → flags ≡ given word version)
    → readings.Word word version flags ≡ shown phase (Word word)
word_shown ends shown s phase word version flags v are =
    ap (λ n. readings.Word word version n) (are s.flags s.kept (s.fit word version))
    ∙ (ap (λ n. readings.Word word n (s.flags word n)) v ∙ sym (s.each phase (Word word)))

-- ---- who stands for the ends

pub stands_for : (case : Case) (found : Findings) (ends : Ends) → AreFewSights (entries_of found) ends.sights → IsShelfOf (given_by (terms_in case found) (all_blocks found.blocks)) (entries_of found) ends.shelf
    → GivesFlags (flags_in case found) ends.flags → FlagsFit case found → AreEndsOf case found (Shows ends)
stands_for case found ends sights shelf flags fit = λ content are. record {
  all = entries_of found;
  content = content;
  flags = flags_in case found;
  sights = sights;
  contents = λ row version had. shelf.only content are row version had;
  kept = flags;
  fit = fit;
  each = λ phase target. refl;
}
