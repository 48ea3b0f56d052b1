-- Along a place of the long history the tickets that are printed rise with the versions, between two releases.
use Rattle.std.proofs.Common.{ℕ, zero, suc, ◌≡◌, ◌+◌, ◌<◌, ◌≤◌, ◌==◌, ◌-◌, Bool, true, false, not, cond, ◌&&◌, List, [], ◌∷◌, ◌++◌, inl, inr, refl, ap, sym, ◌∙◌, subst, arith, eq-eqb, eqb-true, le-leb, lt-ltb, ne_eqb}
use Rattle.std.specs.Prelude.{nat_lt, nat_le, ◌⊎◌}
use Rattle.std.proofs.lemmas.Bool.{cases_lt, false≢true}
use Rattle.pfs_event.specs.declared.entry.Entry.{Entry}
use Rattle.pfs_event.specs.declared.entry.Entry.TheVariants as says
use Rattle.pfs_lemmas.proofs.Bools.{and_first, and_second}
use Rattle.pfs_levels.specs.Calls.{Call, Adds, Rings, Puts, Frees}
use Rattle.pfs_levels.specs.CallOrder.{AllCalls}
use Rattle.pfs_levels.specs.JointCalls.{total, one_if, At, at_put, Setting, Draw, changes_by, changes_of, count, opens_free, frees_at, drawn, Agrees, AllAgree, all_calls}
use Rattle.pfs_levels.specs.declared.answers.Added.TheVariants.{Counted}
use Rattle.pfs_levels.specs.declared.answers.RingPut.TheVariants.{Done}
use Rattle.pfs_model.proofs.EachLists.{each_join}
use Rattle.pfs_model.proofs.Floors.{each_map}
use Rattle.pfs_model.specs.Actions.{IsAmong}
use Rattle.pfs_model.specs.Causes.{long_row, kind_of_row}
use Rattle.pfs_model.specs.Chains.{Each, times, change_at, release_of, each_of}
use Rattle.pfs_model.specs.Chains.{opens_free as opens_there}
use Rattle.pfs_model.specs.EntryPlaces.{Placed, placed_lines, up_to_phase}
use Rattle.pfs_model.specs.Rings.{Ticketed, ticketed_at, is_released_between, LongRises}
use Rattle.pfs_model.specs.declared.changes.Change.{Change}
use Rattle.pfs_law_session.specs.JournalLaws.{AreParts, lines_of, entries_of}
use Rattle.pfs_law_session.proofs.Stints.{done}
use Rattle.pfs_law_plain.specs.RunRules.{entries_of as all_entries}
use Rattle.pfs_law_plain.specs.SessionNotes.{ToldLaw}
use Rattle.pfs_law_plain.specs.Spells.{Spell, AreSpells, doings_calls, parts_in, stints_of}
use Rattle.pfs_law_plain.specs.Weights.{WeighedLaw}
use Rattle.pfs_session.specs.SessionStates.{State}
use Rattle.pfs_law_joint.proofs.TicketSums.{drawn_sum, sum_one}
use Rattle.pfs_law_joint.specs.Phases.{IsShared}
use Rattle.pfs_law_joint.specs.Versions.{makes}
use Rattle.pfs_law_joint.proofs.Sums.{total_then, one_low}
use Rattle.pfs_law_joint.proofs.VersionChains.{log_chain, there, had}
use Rattle.pfs_law_shared.specs.Shares.{actors_of, spells_at, spells_before, AreShared}
use Rattle.pfs_law_shared.specs.Tickets.{IsApart, AllApart, RisenLaw}
use Rattle.pfs_law_shared.proofs.ActedPlaces.{blocks_each}
use Rattle.pfs_law_shared.proofs.DrawnPuts.{long_by}
use Rattle.pfs_law_shared.proofs.DrawnTickets.{draws_add}
use Rattle.pfs_law_shared.proofs.LatePuts.{over_own}
use Rattle.pfs_law_shared.proofs.OthersPrinted.{IsOf, lines_are, chosen_whole}
use Rattle.pfs_law_shared.proofs.PhaseCounts.{ArePrinted, printed_up_to, free_printed}
use Rattle.pfs_law_shared.proofs.PhaseCounts.{all_over as over_actors}
use Rattle.pfs_law_shared.proofs.PhaseTickets.{picked, at_sum, before_sum, up_to_sum, each_actor}
use Rattle.pfs_law_shared.proofs.PhaseWalks.{same_kept, over, over_then}
use Rattle.pfs_law_shared.proofs.PrintedPuts.{longs_of, longs_sum, block_rung, IsTold, block_told, calls_join, actors_all, at_all, before_all}
use Rattle.pfs_law_shared.proofs.RisingNumbers.{done_of}
use Rattle.pfs_law_shared.proofs.TicketedPuts.{word_of, rung_by, rungs, rungs_add, rung_true, times_drawn, rungs_low}

-- a ticket that is printed is counted
this_long : (x : Ticketed) → 0 < long_by x.row x.ticket (λ k. k == x.version) (says.Long x.row x.version x.ticket)
this_long x =
    let row = eq-eqb x.row x.row refl in
    let version = eq-eqb x.version x.version refl in
    let ticket = eq-eqb x.ticket x.ticket refl in
    omega (arith, ap (λ b. one_if (b && ((x.version == x.version) && (x.ticket == x.ticket)))) row, ap (λ b. one_if (b && (x.ticket == x.ticket))) version, ap one_if ticket)

among_entry : (x : Ticketed) (e : Entry) (rest : List Ticketed) → IsAmong x (ticketed_at e ++ rest) → (0 < long_by x.row x.ticket (λ k. k == x.version) e) ⊎ IsAmong x rest
among_entry x (says.Long row version ticket) rest (inl e) =
    inl (subst (λ (z : Ticketed). 0 < long_by z.row z.ticket (λ k. k == z.version) (says.Long row version ticket)) e (this_long (record { row = row; version = version; ticket = ticket })))
among_entry x (says.Long row version ticket) rest (inr is) = inr is
among_entry x _ rest is = inr is

among_long : (x : Ticketed) (ps : List Placed) → IsAmong x (each_of ticketed_at ps) → 0 < longs_of x.row x.ticket (λ k. k == x.version) ps
among_long x [] is = absurd is
among_long x (p ∷ ps) is = at (among_entry x p.entry (each_of ticketed_at ps) is) (λ m. among_long x ps m) where
  at : (0 < long_by x.row x.ticket (λ k. k == x.version) p.entry) ⊎ IsAmong x (each_of ticketed_at ps) → (IsAmong x (each_of ticketed_at ps) → 0 < longs_of x.row x.ticket (λ k. k == x.version) ps)
      → 0 < long_by x.row x.ticket (λ k. k == x.version) p.entry + longs_of x.row x.ticket (λ k. k == x.version) ps
  at (inl here) go = omega (arith, here)
  at (inr later) go = omega (arith, go later)

-- of two versions a ticket is put at most at one
two_puts : (row ticket first next : ℕ) → first < next → (call : Call) → rung_by row ticket (λ k. k == first) call + rung_by row ticket (λ k. k == next) call ≤ rung_by row ticket (λ k. true) call
two_puts row ticket first next less (Rings at content (Done version)) = by (at == row) (version == first) (version == next) (word_of content == ticket + 1) refl refl where
  by : (a b c d : Bool) → (version == first) ≡ b → (version == next) ≡ c → one_if (a && (b && d)) + one_if (a && (c && d)) ≤ one_if (a && (true && d))
  by false b c d p q = omega arith
  by true b c false p q = omega (arith, none b, none c) where
    none : (x : Bool) → one_if (x && false) ≡ 0
    none true = refl
    none false = refl
  by true false false true p q = omega arith
  by true false true true p q = omega arith
  by true true false true p q = omega arith
  by true true true true p q = absurd (omega (arith, less, eqb-true version first p, eqb-true version next q))
two_puts row ticket first next less _ = omega arith

two_rungs : (row ticket first next : ℕ) → first < next → (calls : List Call) → rungs row ticket (λ k. k == first) calls + rungs row ticket (λ k. k == next) calls ≤ rungs row ticket (λ k. true) calls
two_rungs row ticket first next less [] = omega arith
two_rungs row ticket first next less (call ∷ calls) = omega (arith, two_puts row ticket first next less call, two_rungs row ticket first next less calls)

two_over : (row ticket first next : ℕ) → first < next → (actors : List (List Call)) → AllCalls IsTold actors
    → over (rungs row ticket (λ k. k == first)) actors + over (rungs row ticket (λ k. k == next)) actors ≤ over (times_drawn (kind_of_row row) ticket) actors
two_over row ticket first next less [] told = omega arith
two_over row ticket first next less (calls ∷ actors) told =
    omega (arith, two_rungs row ticket first next less calls, rungs_low row ticket (λ k. true) calls told.0.0, two_over row ticket first next less actors told.1)

-- facts of actors as those of all their calls
each_call : (P : Call → Type 0) (actors : List (List Call)) → AllCalls (Each P) actors → Each P (all_calls actors)
unfolding all_calls
each_call P [] all = tt
each_call P (calls ∷ actors) all = each_join P calls (all_calls actors) all.0 (each_call P actors all.1)

-- by the contents of a place
makes_true : (row version at k : ℕ) → ((at == row) && (true && (k == version))) ≡ true → (at ≡ row) × (k ≡ version)
makes_true row version at k e = (eqb-true at row (and_first (at == row) (true && (k == version)) e), eqb-true k version (and_second true (k == version) (and_second (at == row) (true && (k == version)) e)))

module _ (flags : List ℕ) (content : ℕ → ℕ → List ℕ) (log : List At) (sets : List Setting) (row : ℕ) where
  abbrev word_at : ℕ → ℕ
  word_at n = word_of (content row n)

  -- a put with a ticket leaves it
  abbrev makings : ℕ → List At → ℕ
  makings version xs = total (λ x. one_if (makes row version x)) xs

  record IsLeft (ticket version : ℕ) (xs : List At) : Type 0 where
    pub left : word_at version ≡ ticket + 1
    pub made : 0 < makings version xs

  rung_one : (ticket version : ℕ) (call : Call) → Agrees flags content log sets call → 0 < rung_by row ticket (λ k. k == version) call → IsLeft ticket version (changes_by call)
  unfolding total
  rung_one ticket version (Rings at put (Done k)) a some = by ((at == row) && ((k == version) && (word_of put == ticket + 1))) refl some where
    by : (b : Bool) → ((at == row) && ((k == version) && (word_of put == ticket + 1))) ≡ b → 0 < one_if b → IsLeft ticket version (at_put at k ∷ [])
    by false e some = absurd (omega (arith, some))
    by true e some =
        let is = rung_true at row (k == version) (word_of put) ticket e in
        let k_is : (k == version) ≡ true = and_first (k == version) (word_of put == ticket + 1) (and_second (at == row) ((k == version) && (word_of put == ticket + 1)) e) in
        record {
          left = ap (λ z. word_of (content z version)) (sym is.0) ∙ (ap (λ z. word_of (content at z)) (sym (eqb-true k version k_is)) ∙ (ap word_of a.1.1 ∙ is.1));
          made = omega (arith, ap (λ b. one_if (b && (true && (k == version)))) (eq-eqb at row is.0), ap one_if k_is);
        }
  rung_one ticket version _ a some = absurd (omega (arith, some))

  rung_left : (ticket version : ℕ) (calls : List Call) → AllAgree flags content log sets calls → 0 < rungs row ticket (λ k. k == version) calls → IsLeft ticket version (changes_of calls)
  unfolding changes_of
  rung_left ticket version [] a some = absurd (omega (arith, some))
  rung_left ticket version (call ∷ calls) a some = at (cases_lt 0 (rung_by row ticket (λ k. k == version) call)) (λ more. rung_left ticket version calls a.1 more) where
    sum : makings version (changes_by call ++ changes_of calls) ≡ makings version (changes_by call) + makings version (changes_of calls)
    sum = total_then (λ x. one_if (makes row version x)) (changes_by call) (changes_of calls)

    at : (0 < rung_by row ticket (λ k. k == version) call) ⊎ (rung_by row ticket (λ k. k == version) call ≤ 0) → (0 < rungs row ticket (λ k. k == version) calls → IsLeft ticket version (changes_of calls))
        → IsLeft ticket version (changes_by call ++ changes_of calls)
    at (inl here) go = let r = rung_one ticket version call a.0 here in record { left = r.left; made = omega (arith, r.made, sum) }
    at (inr none) go = let r = go (omega (arith, some, none)) in record { left = r.left; made = omega (arith, r.made, sum) }

  -- and the next version has no lower one, where the place wasn't free
  module _ (n : ℕ) (high : 10242 ≤ row) (none : frees_at log row n ≡ 0) where
    apart_made : (at k : ℕ) → at < 10242 → ((at == row) && (true && (k == n + 1))) ≡ false
    apart_made at k low = by (at == row) refl where
      by : (b : Bool) → (at == row) ≡ b → (b && (true && (k == n + 1))) ≡ false
      by false e = refl
      by true e = absurd (omega (arith, low, high, eqb-true at row e))

    made_one : (call : Call) → Agrees flags content log sets call → IsApart call → 0 < makings (n + 1) (changes_by call) → word_at n ≤ word_at (n + 1)
    unfolding total
    made_one (Adds at amount (Counted r k)) a apart some = absurd (omega (arith, some, ap one_if (apart_made r k apart)))
    made_one (Puts at put k) a apart some = absurd (omega (arith, some, ap one_if (apart_made at k apart)))
    made_one (Rings at put (Done k)) a apart some = by ((at == row) && (true && (k == n + 1))) refl some where
      by : (b : Bool) → ((at == row) && (true && (k == n + 1))) ≡ b → 0 < one_if b + 0 → word_at n ≤ word_at (n + 1)
      by false e some = absurd (omega (arith, some))
      by true e some =
          let is = makes_true row (n + 1) at k e in
          let m_is : a.0 ≡ n = omega (arith, a.1.0, is.1) in
          let found : word_of (content at a.0) ≡ word_at n = ap (λ z. word_of (content z a.0)) is.0 ∙ ap (λ z. word_of (content row z)) m_is in
          let left : word_of put ≡ word_at (n + 1) = ap word_of (sym a.1.1) ∙ (ap (λ z. word_of (content z k)) is.0 ∙ ap (λ z. word_of (content row z)) is.1) in
          let freed : frees_at log at a.0 ≡ 0 = ap (λ z. frees_at log z a.0) is.0 ∙ (ap (frees_at log row) m_is ∙ none) in
          newer found left freed (a.1.2 (omega (arith, high, is.0))) where
            newer : word_of (content at a.0) ≡ word_at n → word_of put ≡ word_at (n + 1) → frees_at log at a.0 ≡ 0 → (0 < frees_at log at a.0) ⊎ (word_of (content at a.0) ≤ word_of put) → word_at n ≤ word_at (n + 1)
            newer found left freed (inl more) = absurd (omega (arith, freed, more))
            newer found left freed (inr up) = omega (arith, up, found, left)
    made_one (Frees at k) a apart some = by (at == row) some where
      by : (b : Bool) → 0 < one_if (b && (false && (k == n + 1))) + 0 → word_at n ≤ word_at (n + 1)
      by true some = absurd (omega (arith, some))
      by false some = absurd (omega (arith, some))
    made_one _ a apart some = absurd (omega (arith, some))

    step : (calls : List Call) → AllAgree flags content log sets calls → Each IsApart calls → 0 < makings (n + 1) (changes_of calls) → word_at n ≤ word_at (n + 1)
    unfolding total changes_of
    step [] a apart some = absurd (omega (arith, some))
    step (call ∷ calls) a apart some = at (cases_lt 0 (makings (n + 1) (changes_by call))) (λ more. step calls a.1 apart.1 more) where
      sum : makings (n + 1) (changes_by call ++ changes_of calls) ≡ makings (n + 1) (changes_by call) + makings (n + 1) (changes_of calls)
      sum = total_then (λ x. one_if (makes row (n + 1) x)) (changes_by call) (changes_of calls)

      at : (0 < makings (n + 1) (changes_by call)) ⊎ (makings (n + 1) (changes_by call) ≤ 0) → (0 < makings (n + 1) (changes_of calls) → word_at n ≤ word_at (n + 1)) → word_at n ≤ word_at (n + 1)
      at (inl here) go = made_one call a.0 apart.0 here
      at (inr off) go = go (omega (arith, some, sum, off))

  -- so along many
  climbs : (low d : ℕ) → ((n : ℕ) → low ≤ n → n < low + d → word_at n ≤ word_at (n + 1)) → word_at low ≤ word_at (low + d)
  climbs low zero each = let same : low + 0 ≡ low = omega arith in omega (arith, ap word_at same)
  climbs low (suc d) each =
      let same : low + suc d ≡ (low + d) + 1 = omega arith in
      omega (arith, ap word_at same, climbs low d (λ n up less. each n up (omega (arith, less))), each (low + d) (omega arith) (omega arith))

-- a release between two versions
among_times : (row low high n : ℕ) (cs : List Change) → low ≤ n → n < high → IsAmong (change_at row n) cs → 0 < times (λ c. (c.row == row) && nat_le low c.version && nat_lt c.version high) cs
among_times row low high n [] up less is = absurd is
among_times row low high n (c ∷ cs) up less (inl e) =
    let r : c.row ≡ row = ap (λ (z : Change). z.row) e in
    let v : c.version ≡ n = ap (λ (z : Change). z.version) e in
    omega (
      arith,
      ap (λ b. cond {A = ℕ} (b && nat_le low c.version && nat_lt c.version high) 1 0) (eq-eqb c.row row r),
      ap (λ b. cond {A = ℕ} (b && nat_lt c.version high) 1 0) (le-leb low c.version (omega (arith, up, v))),
      ap (λ b. cond {A = ℕ} b 1 0) (lt-ltb c.version high (omega (arith, less, v))),
    )
among_times row low high n (c ∷ cs) up less (inr is) = omega (arith, among_times row low high n cs up less is)

none_between : (row low high n : ℕ) (cs : List Change) → is_released_between cs row low high ≡ false → low ≤ n → n < high → IsAmong (change_at row n) cs → ⊥
none_between row low high n cs none up less is =
    let some = among_times row low high n cs up less is in
    false≢true (sym none ∙ ap not (ne_eqb (times (λ c. (c.row == row) && nat_le low c.version && nat_lt c.version high) cs) 0 (λ e. omega (arith, some, e))))

-- of all phases
module _ (told : ToldLaw) (weights : WeighedLaw) (flags : List ℕ) (stack : ℕ) (depths : ℕ → ℕ) (spells : List Spell) (last : ℕ) (are : AreSpells stack depths spells) (shared : AreShared flags spells) (apart : AllApart spells)
    (low : Each (λ spell. spell.phase ≤ last) spells) where
  abbrev all : List Placed
  all = all_entries spells

  abbrev now : List (List Call)
  now = actors_of (spells_at last spells)

  abbrev before : List (List Call)
  before = actors_of (spells_before last spells)

  abbrev actors : List (List Call)
  actors = now ++ before

  abbrev common : IsShared flags before now
  common = shared last

  abbrev word : ℕ → ℕ → ℕ
  word row n = word_of (common.content row n)

  whole : up_to_phase last all ≡ all
  whole =
      chosen_whole (λ p. nat_le p.phase last) all
      (blocks_each told weights (λ p. nat_le p.phase last ≡ true) (λ spell. spell.phase ≤ last)
      (λ context s spell sits parts few. each_map (IsOf spell.phase spell.session) (λ p. nat_le p.phase last ≡ true) (λ p is. le-leb p.phase last (omega (arith, is.0, few)))
      (placed_lines spell.phase spell.session context (lines_of (parts_in spell.doings)) (entries_of (parts_in spell.doings))) (lines_are spell.phase spell.session context (lines_of (parts_in spell.doings)) (entries_of (parts_in spell.doings))))
      stack depths [] 0 spells (λ k thread q. q) are.stints low)

  -- facts of all actors
  all_actors : (P : List Call → Type 0) → Each (λ spell. P (doings_calls spell.doings)) spells → AllCalls P actors
  all_actors P each =
      calls_join P now before (actors_all P (spells_at last spells) (at_all (λ spell. P (doings_calls spell.doings)) last spells each))
      (actors_all P (spells_before last spells) (before_all (λ spell. P (doings_calls spell.doings)) last spells each))

  told_all : AllCalls IsTold actors
  told_all =
      all_actors IsTold (each_map (λ spell. (s : State) × AreParts s (parts_in spell.doings)) (λ spell. IsTold (doings_calls spell.doings)) (λ spell x. block_told x.0 spell.doings x.1) spells
      (done_of spells (done stack depths (stints_of spells) are.stints)))

  apart_all : Each IsApart (all_calls actors)
  apart_all = each_call IsApart actors (all_actors (Each IsApart) (each_actor (Each IsApart) spells apart))

  printed : (row ticket : ℕ) (test : ℕ → Bool) → longs_of row ticket test all ≡ over (rungs row ticket test) actors
  printed row ticket test =
      let weigh : List Call → ℕ = rungs row ticket test in
      let w = picked told (λ a b. a ≡ b) same_kept (longs_of row ticket test) (longs_sum row ticket test) (λ spell. weigh (doings_calls spell.doings)) (λ spell. spell.phase ≤ last)
      (λ context s spell parts few. block_rung spell.phase spell.session context s spell.doings parts row ticket test) (λ q. nat_le q last) stack depths [] 0 spells (λ k thread q. q) are.stints low in
      omega (arith, ap (longs_of row ticket test) whole, w, up_to_sum weigh last spells, at_sum weigh last spells, before_sum weigh last spells, over_then weigh now before)

  put_of : (x : Ticketed) → IsAmong x (each_of ticketed_at all) → 0 < over (rungs x.row x.ticket (λ k. k == x.version)) actors
  put_of x is = omega (arith, among_long x all is, printed x.row x.ticket (λ k. k == x.version))

  left_by : (x : Ticketed) → IsAmong x (each_of ticketed_at all) → IsLeft flags common.content common.log common.sets x.row x.ticket x.version (changes_of (all_calls actors))
  left_by x is =
      rung_left flags common.content common.log common.sets x.row x.ticket x.version (all_calls actors) common.joint.agrees
      (omega (arith, put_of x is, over_actors (rungs x.row x.ticket (λ k. k == x.version)) (rungs_add x.row x.ticket (λ k. k == x.version)) actors))

  -- a ticket is drawn at most once
  drawn_few : (kind ticket : ℕ) → over (times_drawn kind ticket) actors ≤ 1
  drawn_few kind ticket =
      let h : Draw → ℕ = λ d. one_if ((d.kind == kind) && (d.ticket == ticket)) in
      omega (
        arith,
        over_actors (times_drawn kind ticket) (draws_add h) actors,
        common.joint.draws_once h,
        drawn_sum kind (λ n. n == ticket) common.draws common.joint.tickets,
        sum_one ticket (drawn common.draws kind),
        one_low (nat_lt ticket (drawn common.draws kind)),
      )

  free_none : (row n : ℕ) → 0 < row → 0 < n → (IsAmong (change_at row n) (each_of release_of all) → ⊥) → frees_at common.log row n ≡ 0
  free_none row n up more absent = by (cases_lt 0 (frees_at common.log row n)) where
    prints : ArePrinted all (all_calls actors)
    prints = subst (λ z. ArePrinted z (all_calls actors)) whole (printed_up_to told weights stack depths spells are.stints last)

    same : frees_at (changes_of (all_calls actors)) row n ≡ frees_at common.log row n
    same = ap (λ z. z + one_if ((n == 0) && opens_free row)) (common.joint.once (λ x. one_if ((x.row == row) && not x.puts && (x.version == n))))

    opened : ((opens_there row ≡ true) × (n ≡ 0)) ⊎ IsAmong (change_at row n) (each_of release_of all) → ⊥
    opened (inl off) = absurd (omega (arith, more, off.1))
    opened (inr is) = absent is

    by : (0 < frees_at common.log row n) ⊎ (frees_at common.log row n ≤ 0) → frees_at common.log row n ≡ 0
    by (inl some) = absurd (opened (free_printed all (all_calls actors) prints row n up (omega (arith, some, same))))
    by (inr none) = omega (arith, none)

  past : (row kind ticket : ℕ) → row ≡ long_row kind ticket → 10242 ≤ row
  past row kind ticket e = omega (arith, e)

  no_version : (n : ℕ) → one_if (nat_lt 0 0 && nat_le 0 n) ≡ 0
  no_version n = refl

  positive : (row version : ℕ) → total (λ x. one_if (makes row version x)) common.log ≡ one_if (nat_lt 0 version && nat_le version (count common.log row)) → 0 < total (λ x. one_if (makes row version x)) common.log → 0 < version
  positive row zero chain made = absurd (omega (arith, chain, made, no_version (count common.log row)))
  positive row (suc version) chain made = omega arith

  differ : (first next : Ticketed) → first.ticket ≤ next.ticket → (first.ticket ≡ next.ticket → ⊥) → first.ticket < next.ticket
  differ first next up absent = by (cases_lt first.ticket next.ticket) where
    by : (first.ticket < next.ticket) ⊎ (next.ticket ≤ first.ticket) → first.ticket < next.ticket
    by (inl less) = less
    by (inr back) = absurd (absent (omega (arith, up, back)))

  twice : (first next : Ticketed) → first.row ≡ next.row → first.ticket ≡ next.ticket → first.version < next.version → 0 < over (rungs first.row first.ticket (λ k. k == first.version)) actors
      → 0 < over (rungs next.row next.ticket (λ k. k == next.version)) actors → ⊥
  twice first next same equal less one other =
      let moved : 0 < over (rungs first.row first.ticket (λ k. k == next.version)) actors =
      subst (λ z. 0 < over (rungs z first.ticket (λ k. k == next.version)) actors) (sym same) (subst (λ z. 0 < over (rungs next.row z (λ k. k == next.version)) actors) (sym equal) other) in
      absurd (omega (arith, one, moved, two_over first.row first.ticket first.version next.version less actors told_all, drawn_few (kind_of_row first.row) first.ticket))

  rises : (first next : Ticketed) → IsAmong first (each_of ticketed_at all) → IsAmong next (each_of ticketed_at all) → first.row ≡ next.row → first.version < next.version
      → is_released_between (each_of release_of all) first.row first.version next.version ≡ false → first.ticket < next.ticket
  rises first next is_first is_next same less none =
      let row : ℕ = first.row in
      let own = over_own row first.ticket first.version actors told_all (put_of first is_first) in
      let high : 10242 ≤ row = past row (kind_of_row row) first.ticket own in
      let a = left_by first is_first in
      let b = left_by next is_next in
      let next_left : word row next.version ≡ next.ticket + 1 = ap (λ z. word z next.version) same ∙ b.left in
      let made_next : 0 < total (λ x. one_if (makes next.row next.version x)) common.log = omega (arith, b.made, common.joint.once (λ x. one_if (makes next.row next.version x))) in
      let made_first : 0 < total (λ x. one_if (makes row first.version x)) common.log = omega (arith, a.made, common.joint.once (λ x. one_if (makes row first.version x))) in
      let next_had = had common.log next.row next.version common.joint.chain made_next in
      let known : next.version ≤ count common.log row = omega (arith, next_had, ap (count common.log) same) in
      let begun : 0 < first.version = positive row first.version (log_chain common.log row first.version common.joint.chain) made_first in
      let each : (n : ℕ) → first.version ≤ n → n < first.version + (next.version - first.version) → word row n ≤ word row (n + 1) =
      λ n up few. step flags common.content common.log common.sets row n high
      (free_none row n (omega (arith, high)) (omega (arith, begun, up)) (λ m. none_between row first.version next.version n (each_of release_of all) none up (omega (arith, few, less)) m)) (all_calls actors) common.joint.agrees apart_all
      (omega (arith, common.joint.once (λ x. one_if (makes row (n + 1) x)), log_chain common.log row (n + 1) common.joint.chain, there (n + 1) (count common.log row) (omega arith) (omega (arith, known, few, less)))) in
      let climb = climbs flags common.content common.log common.sets row first.version (next.version - first.version) each in
      let end : first.version + (next.version - first.version) ≡ next.version = omega (arith, less) in
      let upward : first.ticket ≤ next.ticket = omega (arith, climb, ap (word row) end, a.left, next_left) in
      differ first next upward (λ equal. twice first next same equal less (put_of first is_first) (put_of next is_next))

  pub are_risen : LongRises all
  are_risen = λ first next is_first is_next same less none. rises first next is_first is_next same less none

pub places_rise : ToldLaw → WeighedLaw → RisenLaw
places_rise told weights = λ flags stack depths spells last are shared apart low. are_risen told weights flags stack depths spells last are shared apart low
