-- What the lines of rows that pass a test make of each is what stands there, where each line makes its row's content of
-- the one before.
use Rattle.std.proofs.Common.{◌≡◌, refl, ℕ, suc, ◌+◌, ◌<◌, ◌≤◌, ◌==◌, ◌&&◌, Bool, true, false, cond, nat_lt, nat_le, List, [], ◌∷◌, ◌++◌, length, replicate, sym, ap, subst, ◌∙◌, arith}
use Rattle.pfs_conservation.specs.RowChains.{Sums, content}
use Rattle.pfs_conservation.specs.PrintedChanges.{Tagged, change_of, is_at, standing, changes_of, chain_of}
use Rattle.pfs_event.specs.declared.entry.Entry.{Entry}
use Rattle.pfs_event.specs.declared.entry.Entry.TheVariants as says
use Rattle.pfs_model.specs.Actions.{is_acted}
use Rattle.pfs_model.specs.ActionAsks.{did, asked_of}
use Rattle.pfs_model.specs.Chains.{Each, times, change_at, row_change, each_of, is_that}
use Rattle.pfs_model.specs.Contents.{IsContent, AllContents, IsFoundAsCounted, AreFoundAsCounted}
use Rattle.pfs_model.specs.Contents.{Given as Terms}
use Rattle.pfs_model.specs.Contexts.{brought, fresh}
use Rattle.pfs_model.specs.EntryPlaces.{Placed, places}
use Rattle.pfs_runs.specs.PhaseFinals.{row_version}
use Rattle.pfs_runs.specs.Labels.{asked_at}
use Rattle.pfs_stat.specs.Stat.{WordsAgree, zero_of, words_of, stat_of_words}
use Rattle.pfs_stat.specs.declared.Stat.{Stat}
use Rattle.pfs_law_conservation.specs.RunEvents.{event_number, all_ended}
use Rattle.pfs_law_conservation.specs.Premises.{AreKept}
use Rattle.pfs_law_conservation.specs.RunTerms.{Run, given_in, entries_to, sums_to, stands_to}
use Rattle.pfs_law_conservation.specs.KindLines.{lines_at, all_lines, lines_on}
use Rattle.pfs_law_conservation.proofs.PhaseEntries.{blocks_to, fronts}
use Rattle.pfs_law_conservation.proofs.EntryWalk.{Follow, all_followed}
use Rattle.pfs_law_conservation.proofs.LineContents.{IsKnown, IsBased, lines_based}
use Rattle.pfs_law_conservation.proofs.ActionHeads.{IsFresh, all_fresh}
use Rattle.pfs_law_conservation.proofs.LineVersions.{IsCells, AreCells, changes_counted}
use Rattle.pfs_law_conservation.proofs.GiftLevels.{IsWay}
use Rattle.pfs_law_conservation.proofs.EventNumbers.{times_ended, ends_once}
use Rattle.pfs_law_conservation.proofs.ChosenLines as rowed
use Rattle.pfs_law_conservation.proofs.ChosenLines.{each_map, each_both, each_chosen}
use Rattle.pfs_law_conservation.proofs.ActionJournals.{HasNumber}
use Rattle.pfs_law_conservation.proofs.RowLines.{bit_yes, bit_no, length_if, apart_of, sifted_changes, each_sifted}
use Rattle.pfs_law_conservation.proofs.RowContents.{IsMade, content_stands}
use Rattle.pfs_law_conservation.proofs.InfoTags.{each_did}
use Rattle.pfs_law_conservation.proofs.EntrySources.{HasSource, IsEnded, all_sourced, all_brought}

-- a row that passes has at each version as many lines as changes
standing_same : (test : ℕ → Bool) (row version : ℕ) → test row ≡ true → (ps : List Placed) → AreCells test ps
    → length (standing (lines_on test (all_lines ps)) row version) ≡ times (is_that (change_at row version)) (each_of row_change ps)
standing_same test row version t [] h = refl
standing_same test row version t (p ∷ ps) h = by p.entry h.0 (standing_same test row version t ps h.1) where
  Rest : Type 0
  Rest = length (standing (lines_on test (all_lines ps)) row version) ≡ times (is_that (change_at row version)) (each_of row_change ps)

  away : (at v : ℕ) → test at ≡ false → (at == row) && (v == version) ≡ false
  away at v f = ap (λ b. b && (v == version)) (apart_of test at row f t)

  one : (at v : ℕ) (line : Tagged) → line.row ≡ at → line.version ≡ v → (b : Bool) → test at ≡ b → Rest
      → length (standing (lines_on test (line ∷ all_lines ps)) row version) ≡ cond {A = ℕ} ((at == row) && (v == version)) 1 0 + times (is_that (change_at row version)) (each_of row_change ps)
  one at v line r w true q ih =
      ap (λ b. length (standing (cond b (line ∷ []) [] ++ lines_on test (all_lines ps)) row version)) (ap test r ∙ q)
      ∙ (length_if (is_at line row version) (change_of line) (standing (lines_on test (all_lines ps)) row version)
      ∙ (ap (λ n. cond {A = ℕ} (is_at line row version) 1 0 + n) ih
      ∙ (ap (λ n. cond {A = ℕ} ((n == row) && (line.version == version)) 1 0 + times (is_that (change_at row version)) (each_of row_change ps)) r
      ∙ ap (λ n. cond {A = ℕ} ((at == row) && (n == version)) 1 0 + times (is_that (change_at row version)) (each_of row_change ps)) w)))
  one at v line r w false q ih =
      ap (λ b. length (standing (cond b (line ∷ []) [] ++ lines_on test (all_lines ps)) row version)) (ap test r ∙ q)
      ∙ (ih ∙ zero_more (bit_no ((at == row) && (v == version)) (away at v q))) where
        zero_more : cond {A = ℕ} ((at == row) && (v == version)) 1 0 ≡ 0 → times (is_that (change_at row version)) (each_of row_change ps) ≡ cond {A = ℕ} ((at == row) && (v == version)) 1 0 + times (is_that (change_at row version)) (each_of row_change ps)
        zero_more z = omega (arith, z)

  other : (at v : ℕ) → test at ≡ false → Rest → length (standing (lines_on test (all_lines ps)) row version) ≡ cond {A = ℕ} ((at == row) && (v == version)) 1 0 + times (is_that (change_at row version)) (each_of row_change ps)
  other at v f ih = let z : cond {A = ℕ} ((at == row) && (v == version)) 1 0 ≡ 0 = bit_no ((at == row) && (v == version)) (away at v f) in omega (arith, z, ih)

  by : (e : Entry) → IsCells test e → Rest → length (standing (lines_on test (lines_at p e ++ all_lines ps)) row version) ≡ times (is_that (change_at row version)) (row_change e ++ each_of row_change ps)
  by (says.Add at v) c ih = one at v _ refl refl (test at) refl ih
  by (says.Take at v) c ih = one at v _ refl refl (test at) refl ih
  by (says.Give at v from) c ih = one at v _ refl refl (test at) refl ih
  by (says.Ring at v) c ih = other at v c ih
  by (says.Long at v ticket) c ih = other at v c ih
  by (says.Tag at v) c ih = other at v c ih
  by _ c ih = ih

each_contents : (given : Terms) (content : ℕ → ℕ → List ℕ) (ps : List Placed) → AllContents given content ps → Each (λ (p : Placed). IsContent given content p p.entry) ps
each_contents given content [] h = tt
each_contents given content (p ∷ ps) h = (h.0, each_contents given content ps h.1)

each_counted : (content : ℕ → ℕ → List ℕ) (counted : ℕ → ℕ → Bool) (ps : List Placed) → AreFoundAsCounted content counted ps → Each (λ (p : Placed). IsFoundAsCounted content counted p.context.action p.entry) ps
each_counted content counted [] h = tt
each_counted content counted (p ∷ ps) h = (h.0, each_counted content counted ps h.1)

module _ (words : WordsAgree) (test : ℕ → Bool) (high : (row : ℕ) → 8450 ≤ row → test row ≡ false) (low : (row : ℕ) → row < 129 → test row ≡ false) (range : (row : ℕ) → test row ≡ true → (129 ≤ row) × (row < 8450))
    (run : Run) (phase : ℕ) (kept : AreKept run) (asked : (action : ℕ) → Each (IsWay test) (asked_of (run.counted action) (asked_at run.setting run.change run.labels action))) where
  abbrev all : List Placed
  all = places run.blocks

  abbrev so_far : List Placed
  so_far = entries_to run phase

  abbrev lines : List Tagged
  lines = lines_on test (all_lines so_far)

  abbrev sums : Sums Stat
  sums = sums_to run phase

  abbrev stands : ℕ → ℕ → Stat
  stands row version = stat_of_words (run.content row version)

  -- what is known of each entry up to the phase
  follow : (session : ℕ) → Follow session fresh so_far
  follow session = subst (Follow session fresh) (sym (fronts phase run.blocks kept.rules.shaped).same) (all_followed session (blocks_to phase run.blocks)).follow

  few : (session index : ℕ) → times_ended (event_number session index) (all_ended so_far) ≤ 1
  few session index = (ends_once session index fresh so_far (follow session) (omega arith) (λ l. refl)).1

  abbrev Up : Placed → Bool
  Up p = nat_le p.phase phase

  up : (P : Placed → Type 0) → Each P all → Each P so_far
  up P h = each_map (λ (p : Placed). (nat_le p.phase phase ≡ true) × P p) P so_far (λ p k. k.1) (each_chosen P (λ (p : Placed). nat_le p.phase phase) all h)

  ways : Each (λ (p : Placed). is_acted p.entry ≡ true → Each (IsWay test) (did p.entry)) all
  ways =
      each_map (λ (p : Placed). HasNumber all p × (0 < p.context.action → Each (IsWay test) (did p.entry))) (λ (p : Placed). is_acted p.entry ≡ true → Each (IsWay test) (did p.entry)) all
      (λ p h a. h.1 (rowed.first test high low run phase kept p h.0 a))
      (each_both (HasNumber all) (λ (p : Placed). 0 < p.context.action → Each (IsWay test) (did p.entry)) all (rowed.said test high low run phase kept)
      (each_did (IsWay test) all (λ action l. subst (Each (IsWay test)) (sym (kept.rules.done action l)) (asked action))))

  abbrev Known : Placed → Type 0
  Known p = IsKnown words (given_in run) run.content run.counted test so_far p

  known : Each Known so_far
  known =
      each_map (λ (p : Placed). Made p × (HasSource so_far p.context × (Brings p × (Counts p × Ways p)))) Known so_far
      (λ p h. record { made = h.0; source = h.1.0; brings = h.1.1.0; found = h.1.1.1.0; ways = h.1.1.1.1 })
      (each_both Made (λ (p : Placed). HasSource so_far p.context × (Brings p × (Counts p × Ways p))) so_far (up Made (each_contents (given_in run) run.content all kept.rules.contents.made))
      (each_both (λ (p : Placed). HasSource so_far p.context) (λ (p : Placed). Brings p × (Counts p × Ways p)) so_far (all_sourced so_far follow (up IsFresh (all_fresh run.blocks kept.rules.shaped)))
      (each_both Brings (λ (p : Placed). Counts p × Ways p) so_far (all_brought so_far follow)
      (each_both Counts Ways so_far (up Counts (each_counted run.content run.counted all kept.rules.found)) (up Ways ways))))) where
        Made : Placed → Type 0
        Made p = IsContent (given_in run) run.content p p.entry

        Brings : Placed → Type 0
        Brings p = (row : ℕ) → Each (IsEnded p.session (all_ended so_far)) (brought p.context row)

        Counts : Placed → Type 0
        Counts p = IsFoundAsCounted run.content run.counted p.context.action p.entry

        Ways : Placed → Type 0
        Ways p = is_acted p.entry ≡ true → Each (IsWay test) (did p.entry)

  abbrev Based : Tagged → Type 0
  Based line = IsBased words (given_in run) run.content run.counted test so_far line

  pub based : Each (λ (line : Tagged). (test line.row ≡ true) × IsBased words (given_in run) run.content run.counted test (entries_to run phase) line) (lines_on test (all_lines (entries_to run phase)))
  based = each_sifted test Based (all_lines so_far) (lines_based words (given_in run) run.content run.counted test so_far few so_far known)

  -- a row has one line at each version
  pub count_is : (row : ℕ) → test row ≡ true → changes_of (lines_on test (all_lines (entries_to run phase))) row ≡ row_version (entries_to run phase) row
  count_is row t = sifted_changes test (all_lines so_far) row t ∙ changes_counted test row t so_far (rowed.cells test high low run phase kept)

  pub one : (row : ℕ) → test row ≡ true → (before : ℕ) → before < changes_of (lines_on test (all_lines (entries_to run phase))) row → length (standing (lines_on test (all_lines (entries_to run phase))) row (suc before)) ≡ 1
  one row t before l =
      standing_same test row (suc before) t so_far (rowed.cells test high low run phase kept)
      ∙ (rowed.chain test high low run phase kept (change_at row (suc before)) ∙ bit_yes (nat_lt 0 (suc before) && nat_le (suc before) (row_version so_far row)) (both before (row_version so_far row) (let e : changes_of lines row ≡ row_version so_far row = count_is row t in omega (arith, l, e)))) where
        both : (b n : ℕ) → b < n → (nat_lt 0 (suc b) && nat_le (suc b) n) ≡ true
        both b n l = grind arith

  pub opens : (row : ℕ) → test row ≡ true → stat_of_words (run.content row 0) ≡ zero_of
  opens row t =
      let r : (129 ≤ row) × (row < 8450) = range row t in
      ap stat_of_words (kept.rules.contents.opens row ∙ ap (λ b. cond b (words_of zero_of) (replicate 16 0)) (both row r.0 r.1)) ∙ words zero_of where
        both : (r : ℕ) → 129 ≤ r → r < 8450 → (nat_le 129 r && nat_lt r 8450) ≡ true
        both r l h = grind arith

  -- what takes found makes each line of its row, so they make of it what stands there
  pub contents_are : (found : ℕ → ℕ → Stat) (row : ℕ) → test row ≡ true
      → Each (λ (line : Tagged). line.row ≡ row → IsMade (sums_to run phase) (λ r version. stat_of_words (run.content r version)) found line) (lines_on test (all_lines (entries_to run phase)))
      → content (sums_to run phase) found (chain_of (lines_on test (all_lines (entries_to run phase))) row) ≡ stands_to run phase row
  contents_are found row t made =
      content_stands sums stands found lines row (changes_of lines row) made (one row t) (opens row t) (changes_of lines row) (omega arith)
      ∙ ap (stands row) (count_is row t)
