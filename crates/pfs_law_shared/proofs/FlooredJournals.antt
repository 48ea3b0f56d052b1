-- Journals of sessions at once are floored, and show the causes of what was held or busy, or found vacant.
use Rattle.std.proofs.Common.{ℕ, ◌≡◌, ◌+◌, ◌<◌, ◌≤◌, ◌==◌, Bool, true, false, not, cond, ◌&&◌, List, [], ◌∷◌, ◌++◌, inl, inr, refl, ap, sym, ◌∙◌, subst, arith, append_assoc, append-nil, eq-eqb, eqb-true}
use Rattle.std.specs.Prelude.{nat_lt, nat_le, ◌⊎◌, max}
use Rattle.std.proofs.lemmas.Bool.{cases_lt, false≢true}
use Rattle.pfs_event.specs.declared.entry.Entry.{Entry}
use Rattle.pfs_levels.specs.Calls.{Call, Rings, IsRow}
use Rattle.pfs_levels.specs.declared.answers.RingPut.TheVariants.{Late}
use Rattle.pfs_levels.specs.JointCalls.{total, one_if, At, changes_of, count, drawn, all_calls}
use Rattle.pfs_levels.specs.CallOrder.{AllCalls, all_marks, all_word_marks, marked, published}
use Rattle.pfs_levels.specs.CallOrder.{AreRising as CallsRise}
use Rattle.pfs_model.proofs.EachLists.{each_join, each_front, each_behind}
use Rattle.pfs_model.proofs.Floors.{each_map, each_chosen_of, greatest_most}
use Rattle.pfs_model.specs.Causes.{AreCausedBehind, by_others, kind_of_row}
use Rattle.pfs_model.specs.Chains.{Each, times, row_change, word_change, each_of, is_of}
use Rattle.pfs_model.specs.Contexts.{Context, turned}
use Rattle.pfs_model.specs.Contexts.{fresh as empty}
use Rattle.pfs_model.specs.EntryPlaces.{Block, Placed, placed_lines, places_behind, after_lines, told_by, chosen, by_session, before_phase, up_to_phase, AreShapedBehind}
use Rattle.pfs_model.specs.Floors.{greatest, rows_known, loads_in, AreFlooredBehind}
use Rattle.pfs_model.specs.SetupFlags.{loads_of}
use Rattle.pfs_model.specs.declared.changes.Change.{Change}
use Rattle.pfs_session.specs.SessionStates.{State, fresh}
use Rattle.pfs_law_session.specs.Deeds.{Part}
use Rattle.pfs_law_session.specs.JournalLaws.{AreParts, lines_of, entries_of}
use Rattle.pfs_law_session.specs.Stints.{Stint, block_of, blocks_of, state_by, AreStintsBehind, AreDone}
use Rattle.pfs_law_session.proofs.Stints.{blocks_more, told_more, done}
use Rattle.pfs_law_plain.proofs.ActionCounts.{none_made, all_lined}
use Rattle.pfs_law_plain.specs.RunRules.{entries_of as all_entries}
use Rattle.pfs_law_plain.specs.SessionNotes.{ToldLaw}
use Rattle.pfs_law_plain.specs.Spells.{Spell, AreSpells, doings_calls, parts_in, stint_of, stints_of}
use Rattle.pfs_law_plain.specs.Weights.{put_at, free_at, WeighedLaw}
use Rattle.pfs_law_joint.proofs.TicketSums.{drawn_sum, sum_one}
use Rattle.pfs_law_joint.specs.Causes.{CausesLaw}
use Rattle.pfs_law_joint.specs.Floors.{FloorsLaw}
use Rattle.pfs_law_joint.specs.Phases.{IsShared, AreWhole, HadLaw, LaterLaw, WordHadLaw}
use Rattle.pfs_law_shared.specs.Floors.{HaveFloors}
use Rattle.pfs_law_shared.specs.Journals.{AgreedLaw}
use Rattle.pfs_law_shared.specs.Order.{IsNear, AllNear, AreSingle}
use Rattle.pfs_law_shared.specs.Shares.{actors_of, spells_at, spells_before, AreShared}
use Rattle.pfs_law_shared.proofs.ActedPlaces.{row_weight, word_weight, rows_up_to, words_up_to, all_over, rows_by, frees_by, sets_by, reaches, exceeds, frees_from, below_version, to_version, freed_below, each_both}
use Rattle.pfs_law_shared.proofs.AgreedCalls.{calls_front, calls_back, each_spell}
use Rattle.pfs_law_shared.proofs.DoingMarks.{AreCounted, acted}
use Rattle.pfs_law_shared.proofs.DrawnTickets.{IsBegun, begun}
use Rattle.pfs_law_shared.proofs.FittingNotes.{WasMade, IsPut, Printed, Scene}
use Rattle.pfs_law_shared.proofs.FlooredBlocks.{block_walked}
use Rattle.pfs_law_shared.proofs.FlooredLines.{AreBound, IsHad, Had, WordHad, passed, floored_then, caused_then}
use Rattle.pfs_law_shared.proofs.LatePuts.{WereDrawn, others_here, others_own}
use Rattle.pfs_law_shared.proofs.OrderedActions.{each_near}
use Rattle.pfs_law_shared.proofs.OthersPrinted.{IsOf, lines_are, others_made, others_put}
use Rattle.pfs_law_shared.proofs.PhaseChains.{times_then}
use Rattle.pfs_law_shared.proofs.PhaseCounts.{ArePrinted, printed_up_to, printed_before, rows_counted, words_counted, stands_free, release_printed, free_printed}
use Rattle.pfs_law_shared.proofs.PhaseWalks.{walked, over}
use Rattle.pfs_law_shared.proofs.PhaseWeights.{AllSit, sit_next}
use Rattle.pfs_law_shared.proofs.PlainPhases.{Ascend, ascending, done_at}
use Rattle.pfs_law_shared.proofs.PrintedPuts.{longs_of, IsTold, block_told, actors_all, at_all, before_all}
use Rattle.pfs_law_shared.proofs.RisingNumbers.{AllOver, AllUnder, IsRisen, risen_all, have_ended, at_own, before_own, done_of, all_counted}
use Rattle.pfs_law_shared.proofs.TicketedPuts.{word_of, rungs}
use Rattle.pfs_law_shared.proofs.WholeActors.{actors_whole}

-- what more entries than those give
few_of : {A : Type 0} (given : Entry → List A) (test : A → Bool) (t u : Placed → Bool) → ((p : Placed) → t p ≡ true → u p ≡ true) → (ps : List Placed) → ((xs ys : List A) → times test (xs ++ ys) ≡ times test xs + times test ys)
    → times test (each_of given (chosen t ps)) ≤ times test (each_of given (chosen u ps))
few_of given test t u so [] both = omega arith
few_of given test t u so (p ∷ ps) both = at (t p) (u p) refl refl (few_of given test t u so ps both) where
  at : (a b : Bool) → t p ≡ a → u p ≡ b → times test (each_of given (chosen t ps)) ≤ times test (each_of given (chosen u ps))
      → times test (each_of given (cond a (p ∷ []) [] ++ chosen t ps)) ≤ times test (each_of given (cond b (p ∷ []) [] ++ chosen u ps))
  at true true q r rest = omega (arith, rest, both (given p.entry) (each_of given (chosen t ps)), both (given p.entry) (each_of given (chosen u ps)))
  at true false q r rest = absurd (false≢true (sym r ∙ so p q))
  at false true q r rest = omega (arith, rest, both (given p.entry) (each_of given (chosen u ps)))
  at false false q r rest = rest

phase_less : (g f p : ℕ) → g < f → nat_le p g ≡ true → nat_lt p f ≡ true
phase_less g f p less e = grind (arith, less, e)

each_loads : (P : Change → Type 0) (test : Placed → Bool) (ps : List Placed) → Each (λ p. test p ≡ true → Each P (loads_of p ++ word_change p.entry)) ps → Each P (loads_in (chosen test ps))
each_loads P test [] h = tt
each_loads P test (p ∷ ps) h = at (test p) refl (each_loads P test ps h.1) where
  at : (b : Bool) → test p ≡ b → Each P (loads_in (chosen test ps)) → Each P (loads_in (cond b (p ∷ []) [] ++ chosen test ps))
  at true q r = each_join P (loads_of p ++ word_change p.entry) (loads_in (chosen test ps)) (h.0 q) r
  at false q r = r

-- what a session named in earlier phases is at most what stood as this one began
bound_begun : (all : List Placed) (phase session : ℕ) (seen : List Placed) → Each (IsHad all) seen → Each (λ q. q.session ≡ session → q.phase < phase) seen → AreBound all phase session seen [] []
bound_begun all phase session seen had past = (rows, words) where
  T : Placed → Bool
  T q = q.session == session

  rows : (row : ℕ) → greatest row (each_of rows_known (by_session session seen)) ≤ max (times (is_of row) (each_of row_change (before_phase phase all))) 0
  rows row =
      let n : ℕ = times (is_of row) (each_of row_change (before_phase phase all)) in
      let P : Change → Type 0 = λ c. c.row ≡ row → c.version ≤ n in
      let one : (q : Placed) → IsHad all q → (q.session ≡ session → q.phase < phase) → T q ≡ true → Each P (rows_known q.entry) =
      λ q h less t. each_map (Had all q.phase) P (λ c low e. omega (
        arith,
        low,
        ap (λ r. times (is_of r) (each_of row_change (up_to_phase q.phase all))) e,
        few_of row_change (is_of row) (λ p. nat_le p.phase q.phase) (λ p. nat_lt p.phase phase) (λ p e. phase_less q.phase phase p.phase (less (eqb-true q.session session t)) e) all (times_then (is_of row)),
      )) (rows_known q.entry) h.rows in
      omega (arith, greatest_most row n (each_of rows_known (by_session session seen)) (each_chosen_of P rows_known T seen (each_both (IsHad all) (λ q. q.session ≡ session → q.phase < phase) (λ q. T q ≡ true → Each P (rows_known q.entry)) one seen had past)))

  words : (word : ℕ) → greatest word (loads_in (by_session session seen)) ≤ max (times (is_of word) (each_of word_change (before_phase phase all))) 0
  words word =
      let n : ℕ = times (is_of word) (each_of word_change (before_phase phase all)) in
      let P : Change → Type 0 = λ c. c.row ≡ word → c.version ≤ n in
      let one : (q : Placed) → IsHad all q → (q.session ≡ session → q.phase < phase) → T q ≡ true → Each P (loads_of q ++ word_change q.entry) =
      λ q h less t. each_map (WordHad all q.phase) P (λ c low e. omega (
        arith,
        low,
        ap (λ r. times (is_of r) (each_of word_change (up_to_phase q.phase all))) e,
        few_of word_change (is_of word) (λ p. nat_le p.phase q.phase) (λ p. nat_lt p.phase phase) (λ p e. phase_less q.phase phase p.phase (less (eqb-true q.session session t)) e) all (times_then (is_of word)),
      )) (loads_of q ++ word_change q.entry) h.words in
      omega (arith, greatest_most word n (loads_in (by_session session seen)) (each_loads P T seen (each_both (IsHad all) (λ q. q.session ≡ session → q.phase < phase) (λ q. T q ≡ true → Each P (loads_of q ++ word_change q.entry)) one seen had past)))

each_passed : (P : Placed → Type 0) (seen ps : List Placed) → Each P seen → Each P ps → Each P (passed seen ps)
each_passed P seen [] a b = a
each_passed P seen (p ∷ ps) a b = each_passed P (p ∷ seen) ps (b.0, a) b.1

-- spells of a phase, and a spell among them
at_then : (phase : ℕ) (xs ys : List Spell) → spells_at phase (xs ++ ys) ≡ spells_at phase xs ++ spells_at phase ys
at_then phase [] ys = refl
at_then phase (x ∷ xs) ys =
    ap (λ z. cond (x.phase == phase) (x ∷ []) [] ++ z) (at_then phase xs ys) ∙ sym (append_assoc (cond (x.phase == phase) (x ∷ []) []) (spells_at phase xs) (spells_at phase ys))

actors_then : (xs ys : List Spell) → actors_of (xs ++ ys) ≡ actors_of ys ++ actors_of xs
actors_then [] ys = sym (append-nil (actors_of ys))
actors_then (x ∷ xs) ys = ap (λ z. z ++ doings_calls x.doings ∷ []) (actors_then xs ys) ∙ append_assoc (actors_of ys) (actors_of xs) (doings_calls x.doings ∷ [])

now_is : (earlier later : List Spell) (spell : Spell) → actors_of (spells_at spell.phase (earlier ++ spell ∷ later)) ≡ actors_of (spells_at spell.phase later) ++ doings_calls spell.doings ∷ actors_of (spells_at spell.phase earlier)
now_is earlier later spell =
    let f : ℕ = spell.phase in
    let own : List Spell = spell ∷ spells_at f later in
    ap actors_of (at_then f earlier (spell ∷ later) ∙ ap (λ b. spells_at f earlier ++ (cond b (spell ∷ []) [] ++ spells_at f later)) (eq-eqb f f refl))
    ∙ (actors_then (spells_at f earlier) own ∙ append_assoc (actors_of (spells_at f later)) (doings_calls spell.doings ∷ []) (actors_of (spells_at f earlier)))

-- all of it
module _ (floors : FloorsLaw) (causes : CausesLaw) (rows_had : HadLaw) (words_had : WordHadLaw) (later_law : LaterLaw) (agreed : AgreedLaw) (told : ToldLaw) (weighed : WeighedLaw)
    (flags : List ℕ) (stack : ℕ) (depths : ℕ → ℕ) (spells : List Spell) (last : ℕ) (are : AreSpells stack depths spells) (shared : AreShared flags spells) (near : AllNear spells) (single : AreSingle spells)
    (low : Each (λ spell. spell.phase ≤ last) spells) where
  abbrev all : List Placed
  all = all_entries spells

  abbrev before : ℕ → List (List Call)
  before phase = actors_of (spells_before phase spells)

  abbrev now : ℕ → List (List Call)
  now phase = actors_of (spells_at phase spells)

  abbrev bound : ℕ → ℕ
  bound phase = marked (all_marks (before phase)) 0

  is_done : AreDone (stints_of spells)
  is_done = done stack depths (stints_of spells) are.stints

  shaped : AreShapedBehind [] 0 (blocks_of (stints_of spells))
  shaped = (agreed flags stack depths spells last are.stints shared low).journals.shaped

  nears : Each (λ spell. Each IsNear (doings_calls spell.doings)) spells
  nears = each_near spells near

  rises : Each (λ spell. CallsRise (doings_calls spell.doings)) spells
  rises = each_spell CallsRise last spells low (calls_front CallsRise (now last) (before last) (shared last).order.rising) (calls_back CallsRise (now last) (before last) (shared last).order.rising)

  counts : Each (λ spell. AreCounted spell.doings) spells
  counts = all_counted none_made spells (all_lined stack depths spells are.stints are.entered)

  abbrev HasTold : Spell → Type 0
  HasTold spell = IsTold (doings_calls spell.doings)

  told_each : Each HasTold spells
  told_each = each_map (λ spell. (s : State) × AreParts s (parts_in spell.doings)) HasTold (λ spell x. block_told x.0 spell.doings x.1) spells (done_of spells is_done)

  risen : Each (IsRisen later_law flags spells shared is_done) spells
  risen = risen_all later_law flags spells shared is_done spells (done_of spells is_done) counts rises (at_own spells spells (λ weigh phase. omega arith)) (before_own spells spells (λ weigh phase. omega arith))

  over_bound : Each (λ p. (p.context.action ≡ 0) ⊎ (bound p.phase < p.context.action)) all
  over_bound =
      all_over told weighed stack depths spells are shaped nears bound
      (each_map (IsRisen later_law flags spells shared is_done) (λ spell. AllOver (bound spell.phase) spell.doings) (λ spell r. r.over_all) spells risen)

  -- what is printed up to a phase weighs nothing where its actors' marks do
  module _ (phase session done : ℕ) (ended : (h : ℕ) → phase < h → done ≤ bound h) (others : List (List Call)) (made : (row k : ℕ) → 0 < row → 0 < published (all_marks others) row k → WasMade all phase session done row k) where
    abbrev actors : List (List Call)
    actors = now phase ++ before phase

    rows_none : (B : At → ℕ → Bool) → total (acted (λ x a. one_if (B x a))) (all_marks actors) ≡ 0 → total (row_weight (λ x a. one_if (B x a))) (up_to_phase phase all) ≡ 0
    rows_none B none = omega (arith, none, rows_up_to told weighed stack depths spells are shaped nears (λ x a. one_if (B x a)) phase)

    words_none : (B : At → ℕ → Bool) → total (acted (λ x a. one_if (B x a))) (all_word_marks actors) ≡ 0 → total (word_weight (λ x a. one_if (B x a))) (up_to_phase phase all) ≡ 0
    words_none B none = omega (arith, none, words_up_to told weighed stack depths spells are shaped nears (λ x a. one_if (B x a)) phase)

    up_to_now : ArePrinted (up_to_phase phase all) (all_calls actors)
    up_to_now = printed_up_to told weighed stack depths spells are.stints phase

    before_now : ArePrinted (before_phase phase all) (all_calls (before phase))
    before_now = printed_before told weighed stack depths spells are.stints phase

    printed_now : Printed all phase session done (before phase) (now phase) others
    printed_now = record {
      began = rows_counted (before_phase phase all) (all_calls (before phase)) before_now;
      had = rows_counted (up_to_phase phase all) (all_calls actors) up_to_now;
      words_began = words_counted (before_phase phase all) (all_calls (before phase)) before_now;
      words_had = words_counted (up_to_phase phase all) (all_calls actors) up_to_now;
      free = stands_free (before_phase phase all) (all_calls (before phase)) before_now;
      stood = free_printed (up_to_phase phase all) (all_calls actors) up_to_now;
      freed_is = release_printed (up_to_phase phase all) actors up_to_now;
      made = made;
      above_is = λ row k none. rows_by bound all over_bound phase done ended (exceeds row k done) (λ c. c.row ≡ row → c.version ≤ k) (λ c a up few f. to_version row k done (put_at c) a up few f) (rows_none (exceeds row k done) none);
      reaching_is = λ row k none. (
        rows_by bound all over_bound phase done ended (reaches row k done) (λ c. c.row ≡ row → c.version < k) (λ c a up few f. below_version row k done (put_at c) a up few f) (rows_none (reaches row k done) none),
        frees_by bound all over_bound phase done ended (reaches row k done) (λ c. c.row ≡ row → c.version < k) (λ c a up few f. below_version row k done (free_at c) a up few f) (rows_none (reaches row k done) none),
      );
      released_is = λ row k none. frees_by bound all over_bound phase done ended (frees_from row k done) (λ c. c.row ≡ row → c.version < k) (λ c a up few f. freed_below row k done (free_at c) a refl up few f) (rows_none (frees_from row k done) none);
      words_above = λ word k none. sets_by bound all over_bound phase done ended (exceeds word k done) (λ c. c.row ≡ word → c.version ≤ k) (λ c a up few f. to_version word k done (put_at c) a up few f) (words_none (exceeds word k done) none);
      words_reaching = λ word k none. sets_by bound all over_bound phase done ended (reaches word k done) (λ c. c.row ≡ word → c.version ≤ k)
          (λ c a up few f e. (let less = below_version word k done (put_at c) a up few f e in omega (arith, less))) (words_none (reaches word k done) none);
    }

  -- block by block
  pub record Rest (seen rest : List Placed) : Type 0 where
    pub floored : AreFlooredBehind all seen rest
    pub caused : AreCausedBehind all seen rest

  abbrev IsPast : List Spell → Spell → Type 0
  IsPast earlier other = Each (λ x. x.session ≡ other.session → x.phase < other.phase) earlier

  abbrev WasSeen : List Placed → Spell → Type 0
  WasSeen seen other = Each (λ q. q.session ≡ other.session → q.phase < other.phase) seen

  strict : (p q : ℕ) → p ≤ q → (q ≡ p → ⊥) → p < q
  strict p q up not = elim (cases_lt p q) [
    | inl less ↦ less
    | inr more ↦ absurd (not (omega (arith, up, more)))
  ]

  later_up : (phase : ℕ) (xs : List Spell) → Ascend phase xs → Each (λ x. phase ≤ x.phase) xs
  later_up phase [] up = tt
  later_up phase (x ∷ xs) up = (up.0, each_map (λ y. x.phase ≤ y.phase) (λ y. phase ≤ y.phase) (λ y more. omega (arith, up.0, more)) xs (later_up x.phase xs up.1))

  module _ (spell : Spell) where
    abbrev IsApart : Spell → Type 0
    IsApart other = (spell.phase < other.phase) ⊎ (other.session ≡ spell.session → ⊥)

    apart : (rest : List Spell) → Ascend spell.phase rest → Each (λ other. other.session ≡ spell.session → other.phase ≡ spell.phase → ⊥) rest → Each (λ other. other.session ≡ spell.session → spell.phase < other.phase) rest
    apart rest up alone =
        each_both (λ other. spell.phase ≤ other.phase) (λ other. other.session ≡ spell.session → other.phase ≡ spell.phase → ⊥) (λ other. other.session ≡ spell.session → spell.phase < other.phase)
        (λ other more not same. strict spell.phase other.phase more (not same)) rest (later_up spell.phase rest up) alone

  -- an event that came late: the greater ticket is printed by others
  late_put : (earlier later : List Spell) (spell : Spell) → spells ≡ earlier ++ spell ∷ later
      → now spell.phase ≡ actors_of (spells_at spell.phase later) ++ doings_calls spell.doings ∷ actors_of (spells_at spell.phase earlier)
      → Each (λ x. x.session ≡ spell.session → x.phase ≡ spell.phase → ⊥) earlier → Each (λ x. x.session ≡ spell.session → x.phase ≡ spell.phase → ⊥) later
      → (common : IsShared flags (before spell.phase) (actors_of (spells_at spell.phase later) ++ doings_calls spell.doings ∷ actors_of (spells_at spell.phase earlier))) (done : ℕ) (newer older : List Call) (row greater version : ℕ) (put : List ℕ)
      → doings_calls spell.doings ≡ newer ++ Rings row put (Late greater version) ∷ older → IsRow row → word_of (common.content row version) ≡ greater + 1
      → version ≤ count (changes_of (all_calls ((actors_of (spells_at spell.phase later) ++ doings_calls spell.doings ∷ actors_of (spells_at spell.phase earlier)) ++ before spell.phase))) row → IsPut all spell.phase spell.session done row version greater
  late_put earlier later spell split is none alone common done newer older row greater version put own is_row holds had =
      by (doings_calls spell.doings) own common (subst (AllCalls IsTold) is told_now) holds had where
        f : ℕ
        f = spell.phase

        front : List (List Call)
        front = actors_of (spells_at f later)

        behind : List (List Call)
        behind = actors_of (spells_at f earlier)

        told_now : AllCalls IsTold (now f)
        told_now = actors_all IsTold (spells_at f spells) (at_all HasTold f spells told_each)

        told_before : AllCalls IsTold (before f)
        told_before = actors_all IsTold (spells_before f spells) (before_all HasTold f spells told_each)

        started : IsBegun spells f
        started = begun flags spells shared f

        drawn_before : WereDrawn (kind_of_row row) (before f) (drawn started.draws (kind_of_row row))
        drawn_before = record {
          tickets = λ ticket. started.same (λ d. one_if ((d.kind == kind_of_row row) && (d.ticket == ticket)))
              ∙ (drawn_sum (kind_of_row row) (λ n. n == ticket) started.draws started.drawn_is ∙ sum_one ticket (drawn started.draws (kind_of_row row)));
        }

        printed_by_others : over (rungs row greater (λ k. k == version)) (front ++ behind) ≤ longs_of row greater (λ k. k == version) (by_others spell.session (up_to_phase f all))
        printed_by_others = others_put told spell.session row greater (λ k. k == version) stack depths spells earlier later spell split are shaped nears none alone

        by : (calls : List Call) → calls ≡ newer ++ Rings row put (Late greater version) ∷ older → (common : IsShared flags (before f) (front ++ calls ∷ behind)) → AllCalls IsTold (front ++ calls ∷ behind)
            → word_of (common.content row version) ≡ greater + 1 → version ≤ count (changes_of (all_calls ((front ++ calls ∷ behind) ++ before f))) row → IsPut all f spell.session done row version greater
        by calls own common told_here holds had =
            let S : (z : List Call) → Type 0 = λ z. (c : IsShared flags (before f) (front ++ z ∷ behind)) → AllCalls IsTold (front ++ z ∷ behind) → word_of (c.content row version) ≡ greater + 1
            → version ≤ count (changes_of (all_calls ((front ++ z ∷ behind) ++ before f))) row → IsPut all f spell.session done row version greater in
            subst S (sym own) (λ c t h n. (
            let some = others_here flags (before f) front behind newer older row greater version put c t told_before (drawn started.draws (kind_of_row row)) drawn_before is_row h n in
            record {
              same = others_own flags (before f) front behind newer older row greater version put c t told_before (drawn started.draws (kind_of_row row)) drawn_before is_row h n;
              put = omega (arith, some, printed_by_others);
            })) common told_here holds had

  block_scene : (earlier later : List Spell) (spell : Spell) → spells ≡ earlier ++ spell ∷ later → IsPast earlier spell → Each (λ other. other.session ≡ spell.session → other.phase ≡ spell.phase → ⊥) later
      → (done : ℕ) → ((h : ℕ) → spell.phase < h → done ≤ bound h)
      → Scene flags all spell.phase spell.session done (before spell.phase) (actors_of (spells_at spell.phase later)) (actors_of (spells_at spell.phase earlier)) (doings_calls spell.doings)
  block_scene earlier later spell split past alone done ended =
      let f : ℕ = spell.phase in
      let front : List (List Call) = actors_of (spells_at f later) in
      let behind : List (List Call) = actors_of (spells_at f earlier) in
      let is : now f ≡ front ++ doings_calls spell.doings ∷ behind = ap (λ z. actors_of (spells_at f z)) split ∙ now_is earlier later spell in
      let none : Each (λ x. x.session ≡ spell.session → x.phase ≡ f → ⊥) earlier =
      each_map (λ x. x.session ≡ spell.session → x.phase < f) (λ x. x.session ≡ spell.session → x.phase ≡ f → ⊥) (λ x less same e. absurd (omega (arith, less same, e))) earlier past in
      let p = printed_now f spell.session done ended (front ++ behind)
      (λ row k up some. others_made told weighed spell.session row k stack depths spells earlier later spell split up are shaped nears none alone some) in
      record {
        shared = subst (IsShared flags (before f)) is (shared f);
        whole = subst (AllCalls AreWhole) is (actors_whole (spells_at f spells) (done_at f spells is_done));
        printed = subst (λ z. Printed all f spell.session done (before f) z (front ++ behind)) is p;
        late = λ newer older row greater version put own is_row holds had. late_put earlier later spell split is none alone (subst (IsShared flags (before f)) is (shared f)) done newer older row greater version put own is_row holds had;
      }

  abbrev HasEnded : List Spell → List Stint → Type 0
  HasEnded earlier stints = (k h : ℕ) → Each (λ x. x.session ≡ k → x.phase < h) earlier → (turned (told_by k empty (blocks_of stints))).done ≤ bound h

  journals_walked : (earlier later : List Spell) (stints : List Stint) (phase : ℕ) (seen : List Placed) → spells ≡ earlier ++ later → AllSit stack depths stints → AreStintsBehind stack depths stints phase (stints_of later)
      → AreSingle later → Ascend phase later → Each (λ spell. AreCounted spell.doings) later → Each (λ spell. CallsRise (doings_calls spell.doings)) later → Each (λ spell. Each IsNear (doings_calls spell.doings)) later
      → Each (IsRisen later_law flags spells shared is_done) later → HasEnded earlier stints → Each (IsPast earlier) later → Each (WasSeen seen) later → Each (IsHad all) seen
      → Rest seen (places_behind (blocks_of stints) (blocks_of (stints_of later)))
  unfolding places_behind
  journals_walked earlier [] stints phase seen split sit are_stints alone up counted rise nearby risen_here old past was had = record { floored = tt; caused = tt }
  journals_walked earlier (spell ∷ later) stints phase seen split sit are_stints alone up counted rise nearby risen_here old past was had =
      let k : ℕ = spell.session in
      let f : ℕ = spell.phase in
      let stint : Stint = stint_of spell in
      let ps : List Part = parts_in spell.doings in
      let context : Context = told_by k empty (blocks_of stints) in
      let s : State = state_by k (fresh k stack (depths k)) stints in
      let parts : AreParts s ps = are_stints.1.are_parts in
      let t = told context s ps (sit k) parts in
      let here : List Placed = placed_lines f k context (lines_of ps) (entries_of ps) in
      let others : List Block = blocks_of (stints_of later) in
      let rest : List Placed = places_behind (blocks_of stints ++ block_of stint ∷ []) others in
      let more = blocks_more stints stint in
      let low_under : (h : ℕ) → f < h → AllUnder (bound h) spell.doings = risen_here.0.under in
      let begun_done : (h : ℕ) → f ≤ h → (turned context).done ≤ bound h =
      λ h few. old k h (each_map (λ x. x.session ≡ k → x.phase < f) (λ x. x.session ≡ k → x.phase < h) (λ x less same. omega (arith, less same, few)) earlier past.0) in
      let block = block_walked floors causes rows_had words_had told weighed flags all f k bound (before f) (actors_of (spells_at f later)) (actors_of (spells_at f earlier)) (have_ended flags spells shared f) refl
      (doings_calls spell.doings) (block_scene earlier later spell split past.0 alone.0) rise.0 nearby.0 context s spell.doings seen refl (sit k) parts counted.0 low_under begun_done (bound_begun all f k seen had was.0) in
      let far = apart spell later up.1 alone.0 in
      let next_past : Each (IsPast (earlier ++ spell ∷ [])) later =
      each_both (IsPast earlier) (λ other. other.session ≡ k → f < other.phase) (IsPast (earlier ++ spell ∷ []))
      (λ other before_it less. each_join (λ x. x.session ≡ other.session → x.phase < other.phase) earlier (spell ∷ []) before_it ((λ same. less (sym same)), tt)) later past.1 far in
      let next_seen : Each (WasSeen (passed seen here)) later =
      each_both (WasSeen seen) (λ other. other.session ≡ k → f < other.phase) (WasSeen (passed seen here))
      (λ other before_it less. each_passed (λ q. q.session ≡ other.session → q.phase < other.phase) seen here before_it
      (each_map (IsOf f k) (λ q. q.session ≡ other.session → q.phase < other.phase) (λ q is same. omega (arith, is.0, less (sym same ∙ is.1))) here (lines_are f k context (lines_of ps) (entries_of ps)))) later was.1 far in
      let next_old : HasEnded (earlier ++ spell ∷ []) (stints ++ stint ∷ []) =
      λ j h each. next_end earlier spell stints old block.later j h (each_front (λ x. x.session ≡ j → x.phase < h) earlier (spell ∷ []) each) (each_behind (λ x. x.session ≡ j → x.phase < h) earlier (spell ∷ []) each).0 in
      let r = journals_walked (earlier ++ spell ∷ []) later (stints ++ stint ∷ []) f (passed seen here) (split ∙ sym (append_assoc earlier (spell ∷ []) later)) (sit_next stack depths stints stint sit (λ thread q. t.sits thread q)) are_stints.2
      alone.1 up.1 counted.1 rise.1 nearby.1 risen_here.1 next_old next_past next_seen (each_passed (IsHad all) seen here had block.walked.had) in
      let moved : Rest (passed seen here) rest = subst (λ z. Rest (passed seen here) (places_behind z others)) more r in
      record {
        floored = floored_then all seen here rest block.walked.floored moved.floored;
        caused = caused_then all seen here rest block.walked.caused moved.caused;
      } where
        next_end : (earlier : List Spell) (spell : Spell) (stints : List Stint) → HasEnded earlier stints
            → ((h : ℕ) → spell.phase < h → (turned (after_lines (told_by spell.session empty (blocks_of stints)) (lines_of (parts_in spell.doings)) (entries_of (parts_in spell.doings)))).done ≤ bound h)
            → (j h : ℕ) → Each (λ x. x.session ≡ j → x.phase < h) earlier → (spell.session ≡ j → spell.phase < h) → (turned (told_by j empty (blocks_of (stints ++ stint_of spell ∷ [])))).done ≤ bound h
        next_end earlier spell stints old mine j h each own =
            let parts = parts_in spell.doings in
            let D : Context → Type 0 = λ z. (turned z).done ≤ bound h in
            let is : told_by j empty (blocks_of (stints ++ stint_of spell ∷ [])) ≡ cond (spell.session == j) (after_lines (told_by j empty (blocks_of stints)) (lines_of parts) (entries_of parts)) (told_by j empty (blocks_of stints)) =
            ap (told_by j empty) (blocks_more stints (stint_of spell)) ∙ told_more j empty (blocks_of stints) (block_of (stint_of spell)) in
            subst D (sym is) (by_test (spell.session == j) refl) where
              by_test : (b : Bool) → (spell.session == j) ≡ b → (turned (cond b (after_lines (told_by j empty (blocks_of stints)) (lines_of (parts_in spell.doings)) (entries_of (parts_in spell.doings))) (told_by j empty (blocks_of stints)))).done ≤ bound h
              by_test true e =
                  let same : spell.session ≡ j = eqb-true spell.session j e in
                  subst (λ z. (turned (after_lines (told_by z empty (blocks_of stints)) (lines_of (parts_in spell.doings)) (entries_of (parts_in spell.doings)))).done ≤ bound h) same (mine h (own same))
              by_test false e = old j h each

  no_past : (xs : List Spell) → Each (IsPast []) xs
  no_past [] = tt
  no_past (x ∷ xs) = (tt, no_past xs)

  none_seen : (xs : List Spell) → Each (WasSeen []) xs
  none_seen [] = tt
  none_seen (x ∷ xs) = (tt, none_seen xs)

  pub floors_kept : HaveFloors spells
  floors_kept =
      let r = journals_walked [] spells [] 0 [] refl (λ k thread q. q) are.stints single (ascending stack depths [] 0 spells are.stints) counts rises nears risen (λ k h each. omega arith) (no_past spells) (none_seen spells) tt in
      record { floored = r.floored; caused = r.caused }
