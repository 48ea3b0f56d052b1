-- What the info rows of a run say under a phase's end.
use Rattle.std.proofs.Common.{◌≡◌, refl, ℕ, suc, ◌+◌, ◌*◌, ◌<◌, ◌≤◌, Bool, true, false, cond, nat_le, List, [], ◌∷◌, ◌++◌, length, Option, Some, None, sym, ap, subst, ◌∙◌, inl, inr, arith}
use Rattle.std.specs.Prelude.{if◌then◌else◌}
use Rattle.pfs_lemmas.proofs.Numbers.{le_self}
use Rattle.pfs_admin.specs.Works.{Sign}
use Rattle.pfs_event.specs.declared.entry.Entry.{Entry}
use Rattle.pfs_event.specs.declared.entry.Entry.TheVariants as says
use Rattle.pfs_model.proofs.ChainGrowth.{times_append}
use Rattle.pfs_model.specs.Actions.{is_acted, deeds_of, NeverFall, IsAmong}
use Rattle.pfs_model.specs.ActionAsks.{did, of_action, asked_of}
use Rattle.pfs_model.specs.Chains.{Each, times, action_change, row_change, each_of, is_of}
use Rattle.pfs_model.specs.Contents.{Given, content_after, IsContent, AllContents}
use Rattle.pfs_model.specs.Floors.{AreFlooredBehind, NamingsKeep, namings_of}
use Rattle.pfs_model.specs.EntryPlaces.{Placed, chosen, places, up_to_phase}
use Rattle.pfs_rows.specs.declared.table.Seen.TheVariants.{Whole, Free}
use Rattle.pfs_runs.specs.PhaseFinals.{row_version}
use Rattle.pfs_runs.specs.Labels.{work_at, words_at, asked_at}
use Rattle.pfs_law_conservation.proofs.ChosenLines.{each_map, each_both, each_chosen}
use Rattle.pfs_law_conservation.proofs.RowActions.{chosen_deed}
use Rattle.pfs_law_conservation.proofs.ActionPhases.{early_did}
use Rattle.pfs_law_conservation.proofs.ActionJournals.{IsSaid, HasNumber, all_said, said_to, said_range}
use Rattle.pfs_law_conservation.proofs.InfoTags.{each_did}
use Rattle.pfs_law_conservation.proofs.RingWrites.{IsHigh, all_high}
use Rattle.pfs_law_conservation.specs.Premises.{AreKept}
use Rattle.pfs_law_conservation.specs.RunTerms.{Run, given_in, entries_to}
use Rattle.pfs_law_conservation.specs.InfoRowLaws.{IsTold, AreTold, ToldLaw}
use Rattle.pfs_law_conservation.specs.InfoRowWords.{thread_said, account_said, user_said, host_said}
use Rattle.pfs_law_conservation.proofs.InfoAdditions.{IsHighFeed, all_added}
use Rattle.pfs_law_conservation.proofs.LastSigns.{version_of, IsKnown, AreSigned, Says, says_last}
use Rattle.pfs_law_conservation.proofs.InfoActions.{names, asked_count, asked_among, IsAbove}
use Rattle.pfs_law_conservation.proofs.InfoNews.{news}
use Rattle.pfs_law_conservation.proofs.CellMoves.{IsOfCells, asked_cells}
use Rattle.pfs_law_conservation.proofs.RunSigns.{behind, signed_once, said_next, opening_unsaid}
use Rattle.pfs_law_conservation.proofs.VersionActions.{SaysWords, SaysHad}

below : (a b c : ℕ) → nat_le a b ≡ true → nat_le b c ≡ true → nat_le a c ≡ true
below a b c q r = grind arith

length_join : {A : Type 0} (xs ys : List A) → length (xs ++ ys) ≡ length xs + length ys
length_join [] ys = omega arith
length_join (x ∷ xs) ys = let e : length (xs ++ ys) ≡ length xs + length ys = length_join xs ys in omega (arith, e)

-- fewer of what entries give stand among chosen ones
chosen_few : {A : Type 0} (given : Entry → List A) (test : Placed → Bool) (ps : List Placed) → length (each_of given (chosen test ps)) ≤ length (each_of given ps)
chosen_few given test [] = omega arith
chosen_few given test (p ∷ ps) = at (test p) (chosen_few given test ps) where
  at : (b : Bool) → length (each_of given (chosen test ps)) ≤ length (each_of given ps) → length (each_of given (cond b (p ∷ []) [] ++ chosen test ps)) ≤ length (given p.entry ++ each_of given ps)
  at true l = omega (arith, l, length_join (given p.entry) (each_of given (chosen test ps)), length_join (given p.entry) (each_of given ps))
  at false l = omega (arith, l, length_join (given p.entry) (each_of given ps))

-- a row has more versions in a later phase
versions_rise : (row at phase : ℕ) (ps : List Placed) → nat_le at phase ≡ true → version_of (up_to_phase at ps) row ≤ version_of (up_to_phase phase ps) row
versions_rise row at phase [] l = omega arith
versions_rise row at phase (p ∷ ps) l = on (nat_le p.phase at) refl (nat_le p.phase phase) refl (versions_rise row at phase ps l) where
  own : ℕ
  own = times (is_of row) (row_change p.entry)

  a : times (is_of row) (row_change p.entry ++ each_of row_change (up_to_phase at ps)) ≡ times (is_of row) (row_change p.entry) + version_of (up_to_phase at ps) row
  a = times_append (is_of row) (row_change p.entry) (each_of row_change (up_to_phase at ps))

  b : times (is_of row) (row_change p.entry ++ each_of row_change (up_to_phase phase ps)) ≡ times (is_of row) (row_change p.entry) + version_of (up_to_phase phase ps) row
  b = times_append (is_of row) (row_change p.entry) (each_of row_change (up_to_phase phase ps))

  on : (x : Bool) → nat_le p.phase at ≡ x → (y : Bool) → nat_le p.phase phase ≡ y → version_of (up_to_phase at ps) row ≤ version_of (up_to_phase phase ps) row
      → version_of (cond x (p ∷ []) [] ++ up_to_phase at ps) row ≤ version_of (cond y (p ∷ []) [] ++ up_to_phase phase ps) row
  on true q true r ih = omega (arith, a, b, ih)
  on true q false r ih = absurd (let k : true ≡ false = sym (below p.phase at phase q l) ∙ r in cc)
  on false q true r ih = omega (arith, b, ih)
  on false q false r ih = ih

-- a release names a version that its row had by its phase's end
floored_had : (all earlier ps : List Placed) → AreFlooredBehind all earlier ps → Each (λ (p : Placed). SaysHad (version_of (up_to_phase p.phase all)) p.entry) ps
floored_had all earlier [] h = tt
floored_had all earlier (p ∷ ps) h = (by p.entry h.0, floored_had all (p ∷ earlier) ps h.2) where
  by : (e : Entry) → NamingsKeep all earlier p (namings_of e) → SaysHad (version_of (up_to_phase p.phase all)) e
  by (says.Free row version) n = n.1
  by _ n = tt

made_words : (given : Given) (content : ℕ → ℕ → List ℕ) (ps : List Placed) → AllContents given content ps → Each (λ (p : Placed). SaysWords content given.info_words p.context.action p.entry) ps
made_words given content [] h = tt
made_words given content (p ∷ ps) h = (by p.entry refl h.0, made_words given content ps h.1) where
  by : (e : Entry) → p.entry ≡ e → IsContent given content p e → SaysWords content given.info_words p.context.action e
  by (says.Tag row version) is (before, v, c) = c ∙ ap (λ z. content_after given content p p.context (content row before) z) is
  by _ is c = tt

module _ (run : Run) (phase : ℕ) (kept : AreKept run) where
  abbrev all : List Placed
  all = places run.blocks

  abbrev so_far : List Placed
  so_far = entries_to run phase

  abbrev count : ℕ
  count = length (each_of action_change so_far)

  abbrev words : ℕ → ℕ → List ℕ
  words = words_at run.setting run.change run.labels

  abbrev signs : ℕ → List Sign
  signs k = (work_at run.setting run.change run.labels k).signs

  said : Each (HasNumber all) all
  said = all_said run.blocks kept.rules.shaped

  -- an entry that acts stands under its action's number
  acting : (p : Placed) → HasNumber all p → is_acted p.entry ≡ true → IsSaid all p.session p.phase p.context.action
  acting p (inl n) a = let f : is_acted p.entry ≡ false = n.1 in absurd (cc)
  acting p (inr s) a = s

  range_to : (at : ℕ) (p : Placed) → nat_le p.phase at ≡ true → HasNumber all p → is_acted p.entry ≡ true → (1 ≤ p.context.action) × (p.context.action ≤ length (each_of action_change (up_to_phase at all)))
  range_to at p l h a = said_range at p.session p.phase p.context.action all kept.rules.joint.ordered.numbers (said_to at p.session p.phase p.context.action all l (acting p h a))

  first : (p : Placed) → HasNumber all p → is_acted p.entry ≡ true → 0 < p.context.action
  first p h a = let l : 1 ≤ p.context.action = (range_to p.phase p (le_self p.phase) h a).0 in omega (arith, l)

  up : (P : Placed → Type 0) → Each P all → Each P so_far
  up P h = each_map (λ (p : Placed). (nat_le p.phase phase ≡ true) × P p) P so_far (λ p k. k.1) (each_chosen P (λ (p : Placed). nat_le p.phase phase) all h)

  range : Each (λ (p : Placed). is_acted p.entry ≡ true → (1 ≤ p.context.action) × (p.context.action ≤ count)) so_far
  range = each_map (λ (p : Placed). (nat_le p.phase phase ≡ true) × HasNumber all p) (λ (p : Placed). is_acted p.entry ≡ true → (1 ≤ p.context.action) × (p.context.action ≤ count)) so_far
      (λ p h a. range_to phase p h.0 h.1 a) (each_chosen (HasNumber all) (λ (p : Placed). nat_le p.phase phase) all said)

  -- info rows are changed by tags alone
  ways : Each (λ (p : Placed). 0 < p.context.action → Each IsOfCells (did p.entry)) all
  ways = each_did IsOfCells all (λ action l. subst (Each IsOfCells) (sym (kept.rules.done action l)) (asked_cells run.setting run.change run.labels action (run.counted action)))

  abbrev Feeds : Placed → Type 0
  Feeds p = IsHighFeed p.entry × (0 < p.context.action → Each IsOfCells (did p.entry))

  above_all : Each (λ (p : Placed). IsAbove p.entry) all
  above_all =
      each_map (λ (p : Placed). HasNumber all p × (IsHigh p.entry × Feeds p)) (λ (p : Placed). IsAbove p.entry) all
      (λ p h. by p.entry p.context.action (first p h.0) h.1.0 h.1.1.0 h.1.1.1)
      (each_both (HasNumber all) (λ (p : Placed). IsHigh p.entry × Feeds p) all said
      (each_both (λ (p : Placed). IsHigh p.entry) Feeds all (all_high run.flags run.blocks kept.rules.shaped kept.brought)
      (each_both (λ (p : Placed). IsHighFeed p.entry) (λ (p : Placed). 0 < p.context.action → Each IsOfCells (did p.entry)) all (all_added run.flags run.blocks kept.rules.shaped kept.brought) ways))) where
        by : (e : Entry) (action : ℕ) → (is_acted e ≡ true → 0 < action) → IsHigh e → IsHighFeed e → (0 < action → Each IsOfCells (did e)) → IsAbove e
        by (says.Add row version) action f h g w = g
        by (says.Ring row version) action f h g w = let l : 8450 ≤ row = h in omega (arith, l)
        by (says.Long row version ticket) action f h g w = let l : 8450 ≤ row = h in omega (arith, l)
        by (says.Take row version) action f h g w = (w (f refl)).0.0
        by (says.Give row version from) action f h g w = (w (f refl)).0.0
        by _ action f h g w = tt

  -- releases name versions that were
  had : Each (λ (p : Placed). SaysHad (version_of so_far) p.entry) so_far
  had = each_map (λ (p : Placed). (nat_le p.phase phase ≡ true) × SaysHad (version_of (up_to_phase p.phase all)) p.entry) (λ (p : Placed). SaysHad (version_of so_far) p.entry) so_far
      (λ p h. by p.phase p.entry h.0 h.1)
      (each_chosen (λ (p : Placed). SaysHad (version_of (up_to_phase p.phase all)) p.entry) (λ (p : Placed). nat_le p.phase phase) all (floored_had all [] all kept.rules.joint.floored)) where
        by : (at : ℕ) (e : Entry) → nat_le at phase ≡ true → SaysHad (version_of (up_to_phase at all)) e → SaysHad (version_of so_far) e
        by at (says.Free row version) l h =
            let v : version ≤ version_of (up_to_phase at all) row = h in
            let r : version_of (up_to_phase at all) row ≤ version_of (up_to_phase phase all) row = versions_rise row at phase all l in
            omega (arith, v, r)
        by at _ l h = tt

  ordered : NeverFall (deeds_of so_far)
  ordered first next m o s =
      kept.rules.joint.ordered.deeds first next (chosen_deed (λ (p : Placed). nat_le p.phase phase) first all m) (chosen_deed (λ (p : Placed). nat_le p.phase phase) next all o) s

  known : IsKnown count run.content words so_far
  known = record {
    above = up (λ (p : Placed). IsAbove p.entry) above_all;
    range = range;
    says = up (λ (p : Placed). SaysWords run.content words p.context.action p.entry) (made_words (given_in run) run.content all kept.rules.contents.made);
    had = had;
    chain = kept.rules.joint.rows phase;
    ordered = ordered;
  }

  -- each action up to there does what it was asked
  few : count ≤ length run.labels
  few = let e : length run.labels ≡ length (each_of action_change all) = kept.labelled.few in
      let l : count ≤ length (each_of action_change all) = chosen_few action_change (λ (p : Placed). nat_le p.phase phase) all in
      omega (arith, e, l)

  does : (k : ℕ) → 1 ≤ k → k ≤ count → each_of did (of_action k so_far) ≡ asked_of (run.counted k) (asked_at run.setting run.change run.labels k)
  does k l h = early_did phase all kept.rules.joint.ordered.numbers k l h said ∙ kept.rules.done k (omega (arith, l))

  signed : (row : ℕ) (to_say : ℕ → Option (List ℕ)) → to_say 0 ≡ None → ((k : ℕ) → k < count → to_say (suc k) ≡ news (signs (suc k)) row (to_say k)) → AreSigned count signs words row to_say so_far
  signed row to_say opens steps = record {
    count = λ k l h. ap (times (names row)) (does k l h) ∙ asked_count row (run.counted k) (work_at run.setting run.change run.labels k);
    among = λ k l h d m. subst (IsAmong d) (sym (does k l h)) (asked_among d (run.counted k) (work_at run.setting run.change run.labels k) m);
    once = λ k l h. signed_once run.setting run.change run.labels row k;
    wording = λ k. refl;
    opens = opens;
    steps = steps;
  }

  told_as : (row : ℕ) (to_say : Option (List ℕ)) → Says run.content so_far row to_say → IsTold run phase row to_say
  told_as row None s = record {
    free = s.free;
    shown = ap (λ b. if b then Free (4 * row_version so_far row) else Whole (row_version so_far row) (run.content row (row_version so_far row))) s.free;
  }
  told_as row (Some new) s = record {
    free = s.free;
    shown = ap (λ b. if b then Free (4 * row_version so_far row) else Whole (row_version so_far row) (run.content row (row_version so_far row))) s.free
        ∙ ap (Whole (row_version so_far row)) s.words;
  }

  told_by : (row : ℕ) → 0 < row → row < 129 → (to_say : ℕ → Option (List ℕ)) → to_say 0 ≡ None → ((k : ℕ) → k < count → to_say (suc k) ≡ news (signs (suc k)) row (to_say k)) → IsTold run phase row (to_say count)
  told_by row l h to_say opens steps = told_as row (to_say count) (says_last count signs run.content words row to_say so_far l h known (signed row to_say opens steps))

  pub told : AreTold run phase
  told = record {
    threads = λ q l. told_by (1 + q) (omega arith) (omega (arith, l)) (λ n. thread_said (behind run.setting run.change run.labels n) q) ((opening_unsaid run.setting run.change run.labels).threads q)
        (λ k h. (said_next run.setting run.change run.labels k (omega (arith, h, few))).threads q l);
    accounts = λ q l. told_by (33 + q) (omega arith) (omega (arith, l)) (λ n. account_said (behind run.setting run.change run.labels n) q) ((opening_unsaid run.setting run.change run.labels).accounts q)
        (λ k h. (said_next run.setting run.change run.labels k (omega (arith, h, few))).accounts q l);
    users = λ q l. told_by (65 + q) (omega arith) (omega (arith, l)) (λ n. user_said (behind run.setting run.change run.labels n) q) ((opening_unsaid run.setting run.change run.labels).users q)
        (λ k h. (said_next run.setting run.change run.labels k (omega (arith, h, few))).users q l);
    hosts = λ q l. told_by (97 + q) (omega arith) (omega (arith, l)) (λ n. host_said (behind run.setting run.change run.labels n) q) ((opening_unsaid run.setting run.change run.labels).hosts q)
        (λ k h. (said_next run.setting run.change run.labels k (omega (arith, h, few))).hosts q l);
  }

pub told_law : ToldLaw
told_law run phase kept = told run phase kept
