-- What a session's notes keep, as its journal counts it: each is above, or not below, all that its session knew, and what
-- was refused or found free has its cause.
use Rattle.std.proofs.Common.{ℕ, ◌≡◌, ◌+◌, ◌/◌, ◌%◌, ◌<◌, ◌≤◌, ◌==◌, Bool, true, false, cond, List, [], ◌∷◌, ◌++◌, Option, Some, None, inl, inr, refl, ap, sym, subst, arith, append_assoc, eqb-true}
use Rattle.std.proofs.Math.Nat.{max-le}
use Rattle.std.proofs.lemmas.Bool.{cases_lt}
use Rattle.pfs_board.specs.declared.view.Label.{Label}
use Rattle.std.specs.Prelude.{◌≢◌, ◌⊎◌, max}
use Rattle.pfs_levels.specs.declared.answers.Added.TheVariants.{Counted, Held}
use Rattle.pfs_levels.specs.declared.answers.RingPut.TheVariants.{Done, Busy, Late}
use Rattle.pfs_levels.specs.Calls.{Call, Adds, Rings, Reads, Loads, Draws, Takes, Puts, Frees, Sets, Enters, Leaves, Meets, IsRow, after_in}
use Rattle.pfs_levels.specs.CallOrder.{AllCalls, all_marks, all_word_marks, above, reaching, freed, marked, published, released, top_in, top_word}
use Rattle.pfs_levels.specs.CallOrder.{AreRising as CallsRise, IsRising}
use Rattle.pfs_levels.specs.JointCalls.{changes_of, count, sets_of, word_version, frees_at, all_calls}
use Rattle.pfs_model.specs.Actions.{IsAmong}
use Rattle.pfs_model.specs.Causes.{AreBusy, by_others, long_row, kind_of_row}
use Rattle.pfs_model.specs.Chains.{Each, times, change_at, row_change, word_change, release_of, each_of, is_of, opens_free, is_free_after}
use Rattle.pfs_model.specs.EntryPlaces.{Placed, before_phase, up_to_phase}
use Rattle.pfs_model.specs.Floors.{by_actions, greatest}
use Rattle.pfs_model.specs.declared.changes.Change.{Change}
use Rattle.pfs_rows.specs.declared.table.Seen.TheVariants as sees
use Rattle.pfs_law_plain.specs.Notes.{Note, Wrote, Freed, Found, Vacant, Refused, Overdue, Switched, Saw, Acted, told, all_told}
use Rattle.pfs_law_plain.specs.Spells.{entering}
use Rattle.pfs_law_joint.specs.Causes.{IsOthers, WasOthers, WasLate, WasFree, HasCause, CausesLaw}
use Rattle.pfs_law_joint.specs.Floors.{IsAbove, IsNotBelow, IsUnreleased, IsSetAbove, IsLoadedAbove, Keeps, FloorsLaw}
use Rattle.pfs_law_joint.specs.Phases.{IsShared, HaveEnded, AreWhole, Moment, phase_of, others_of, WereDone, Names, NamesWord, HadLaw, WordHadLaw}
use Rattle.pfs_law_joint.proofs.NamedVersions.{row_grows, rows_named, words_named}
use Rattle.pfs_law_shared.specs.Order.{IsNear}
use Rattle.pfs_law_shared.proofs.InnerCalls.{AreWithin}
use Rattle.pfs_law_shared.proofs.NamedNotes.{onto_rows, onto_words, onto_rows_then, onto_words_then, AllFit, fit_then}
use Rattle.pfs_law_shared.proofs.PrintedPuts.{longs_of}
use Rattle.pfs_law_shared.proofs.TicketedPuts.{word_of}

-- entries of a phase, and a session of it; and up to which action it knows all as ended
module _ (all : List Placed) (phase session done : ℕ) where
  abbrev pub began_at : ℕ → ℕ
  began_at row = times (is_of row) (each_of row_change (before_phase phase all))

  abbrev pub had_at : ℕ → ℕ
  had_at row = times (is_of row) (each_of row_change (up_to_phase phase all))

  -- not below the phase's beginning, what the session named, and what ended actions gave; or above all that
  pub record IsUp (rows : List Change) (row version : ℕ) : Type 0 where
    pub began : began_at row ≤ version
    pub own : greatest row rows ≤ version
    pub given : Each (λ c. c.row ≡ row → c.version ≤ version) (each_of row_change (by_actions done all))

  pub record IsOver (rows : List Change) (row version : ℕ) : Type 0 where
    pub began : began_at row < version
    pub own : greatest row rows < version
    pub given : Each (λ c. c.row ≡ row → c.version < version) (each_of row_change (by_actions done all))
    pub released : Each (λ c. c.row ≡ row → c.version < version) (each_of release_of (by_actions done all))
    pub had : version ≤ had_at row

  pub record IsRead (rows : List Change) (row version : ℕ) : Type 0 where
    pub up : IsUp rows row version
    pub released : Each (λ c. c.row ≡ row → c.version < version) (each_of release_of (by_actions done all))
    pub stood : is_free_after (before_phase phase all) row ≡ true → began_at row < version
    pub had : version ≤ had_at row

  pub record IsFreed (rows : List Change) (row version : ℕ) : Type 0 where
    pub up : IsUp rows row version
    pub had : version ≤ had_at row

  pub record IsLoaded (words : List Change) (word version : ℕ) : Type 0 where
    pub began : times (is_of word) (each_of word_change (before_phase phase all)) ≤ version
    pub own : greatest word words ≤ version
    pub given : Each (λ c. c.row ≡ word → c.version ≤ version) (each_of word_change (by_actions done all))
    pub had : version ≤ times (is_of word) (each_of word_change (up_to_phase phase all))

  abbrev pub WasMade : ℕ → ℕ → Type 0
  WasMade row version = IsAmong (change_at row version) (each_of row_change (by_others session (up_to_phase phase all)))

  abbrev pub WasFreed : ℕ → ℕ → Type 0
  WasFreed row version = IsAmong (change_at row version) (each_of release_of (up_to_phase phase all))

  pub record IsRefused (rows : List Change) (row first second : ℕ) : Type 0 where
    pub up : IsUp rows row (first / 4)
    pub rises : first / 4 ≤ second / 4
    pub states : (first % 4 < 3) × (second % 4 < 3)
    pub words : AreBusy first second
    pub had : second / 4 ≤ had_at row
    pub between : (version : ℕ) → first / 4 < version → version ≤ second / 4 → WasMade row version
    pub first_held : first % 4 ≡ 1 → WasMade row (first / 4 + 1) ⊎ WasFreed row (first / 4)
    pub second_held : second % 4 ≡ 1 → WasMade row (second / 4 + 1) ⊎ WasFreed row (second / 4)
    pub freed : second % 4 ≡ 0 → WasFreed row (second / 4)

  pub record IsVacant (rows : List Change) (row : ℕ) : Type 0 where
    pub version : ℕ
    pub up : IsUp rows row version
    pub stood : ((opens_free row ≡ true) × (version ≡ 0)) ⊎ WasFreed row version

  -- another's line put this ticket there at this version
  pub record IsPut (row version ticket : ℕ) : Type 0 where
    pub same : row ≡ long_row (kind_of_row row) ticket
    pub put : 0 < longs_of row ticket (λ k. k == version) (by_others session (up_to_phase phase all))

  pub record IsOverdue (rows : List Change) (row greater : ℕ) : Type 0 where
    pub version : ℕ
    pub up : IsUp rows row version
    pub is_put : IsPut row version greater

  abbrev pub Fits : List Change → List Change → Note → Type 0
  Fits rows words (Wrote row version) = IsOver rows row version
  Fits rows words (Found row version) = IsRead rows row version
  Fits rows words (Freed row version) = IsFreed rows row version
  Fits rows words (Refused row first second) = IsRefused rows row first second
  Fits rows words (Vacant row) = IsVacant rows row
  Fits rows words (Saw word version) = IsLoaded words word version
  Fits rows words (Switched word version flags) = IsLoaded words word version
  Fits rows words (Overdue row greater) = IsOverdue rows row greater
  Fits rows words (Acted number) = Unit {0}

-- what is printed, as the actors' calls have it
pub record Printed (all : List Placed) (phase session done : ℕ) (before now others : List (List Call)) : Type 0 where
  pub began : (row : ℕ) → began_at all phase session done row ≡ count (changes_of (all_calls before)) row
  pub had : (row : ℕ) → had_at all phase session done row ≡ count (changes_of (all_calls (now ++ before))) row
  pub words_began : (word : ℕ) → times (is_of word) (each_of word_change (before_phase phase all)) ≡ word_version (sets_of (all_calls before)) word
  pub words_had : (word : ℕ) → times (is_of word) (each_of word_change (up_to_phase phase all)) ≡ word_version (sets_of (all_calls (now ++ before))) word
  pub free : (row : ℕ) → 0 < row → is_free_after (before_phase phase all) row ≡ true → 0 < frees_at (changes_of (all_calls before)) row (count (changes_of (all_calls before)) row)
  pub stood : (row k : ℕ) → 0 < row → 0 < frees_at (changes_of (all_calls (now ++ before))) row k → ((opens_free row ≡ true) × (k ≡ 0)) ⊎ WasFreed all phase session done row k
  pub freed_is : (row k : ℕ) → 0 < row → 0 < released (all_marks (now ++ before)) row k → WasFreed all phase session done row k
  pub made : (row k : ℕ) → 0 < row → 0 < published (all_marks others) row k → WasMade all phase session done row k
  pub above_is : (row k : ℕ) → above (all_marks (now ++ before)) row k done ≡ 0 → Each (λ c. c.row ≡ row → c.version ≤ k) (each_of row_change (by_actions done all))
  pub reaching_is : (row k : ℕ) → reaching (all_marks (now ++ before)) row k done ≡ 0
      → Each (λ c. c.row ≡ row → c.version < k) (each_of row_change (by_actions done all)) × Each (λ c. c.row ≡ row → c.version < k) (each_of release_of (by_actions done all))
  pub released_is : (row k : ℕ) → freed (all_marks (now ++ before)) row k done ≡ 0 → Each (λ c. c.row ≡ row → c.version < k) (each_of release_of (by_actions done all))
  pub words_above : (word k : ℕ) → above (all_word_marks (now ++ before)) word k done ≡ 0 → Each (λ c. c.row ≡ word → c.version ≤ k) (each_of word_change (by_actions done all))
  pub words_reaching : (word k : ℕ) → reaching (all_word_marks (now ++ before)) word k done ≡ 0 → Each (λ c. c.row ≡ word → c.version ≤ k) (each_of word_change (by_actions done all))

-- what is said of rows, and of words, that stand named is not above what is said of calls
abbrev pub IsUnder : List Change → List Change → List Call → Type 0
IsUnder rows words calls = ((row : ℕ) → greatest row rows ≤ top_in calls row) × ((word : ℕ) → word < 160 → greatest word words ≤ top_word calls word)

row_under : (row at v t g : ℕ) → g ≤ t → (at ≡ row → v ≤ t) → max (cond (at == row) v 0) g ≤ t
row_under row at v t g low up = by_test (at == row) refl where
  by_test : (b : Bool) → (at == row) ≡ b → max (cond b v 0) g ≤ t
  by_test true q = max-le (up (eqb-true at row q)) low
  by_test false q = max-le (omega arith) low

at_word : (b : Bool) (v t : ℕ) → (b ≡ true → t ≤ v) → t ≤ cond b v t
at_word true v t low = low refl
at_word false v t low = omega arith

word_step : (call : Call) (calls : List Call) (word : ℕ) → word < 160 → IsRising calls call → top_word calls word ≤ top_word (call ∷ calls) word
word_step (Loads w v flags) calls word low rise = at_word (w == word) v (top_word calls word) (λ b. omega (arith, rise, ap (top_word calls) (eqb-true w word b)))
word_step (Sets w flags v) calls word low rise = at_word (w == word) v (top_word calls word) (λ b. omega (arith, rise, ap (top_word calls) (eqb-true w word b)))
word_step (Meets versions) calls word low rise = rise word low
word_step (Adds row amount answer) calls word low rise = omega arith
word_step (Rings row content answer) calls word low rise = omega arith
word_step (Reads row seen) calls word low rise = omega arith
word_step (Draws kind ticket) calls word low rise = omega arith
word_step (Takes row version found) calls word low rise = omega arith
word_step (Puts row content version) calls word low rise = omega arith
word_step (Frees row version) calls word low rise = omega arith
word_step (Enters label labels) calls word low rise = omega arith
word_step Leaves calls word low rise = omega arith

module _ (rows words : List Change) (call : Call) (calls : List Call) (rise : CallsRise (call ∷ calls)) (u : IsUnder rows words calls) where
  old_row : (row : ℕ) → greatest row rows ≤ top_in (call ∷ calls) row
  old_row row = omega (arith, u.0 row, row_grows (call ∷ []) calls row rise)

  old_word : (word : ℕ) → word < 160 → greatest word words ≤ top_word (call ∷ calls) word
  old_word word low = omega (arith, u.1 word low, word_step call calls word low rise.0)

  one_row : (at v : ℕ) → ((row : ℕ) → at ≡ row → Names call row v) → IsUnder (change_at at v ∷ rows) words (call ∷ calls)
  one_row at v names = ((λ row. row_under row at v (top_in (call ∷ calls) row) (greatest row rows) (old_row row) (λ e. rows_named [] calls call row v rise (names row e))), old_word)

  two_rows : (at v w : ℕ) → ((row : ℕ) → at ≡ row → Names call row v × Names call row w) → IsUnder (change_at at v ∷ change_at at w ∷ rows) words (call ∷ calls)
  two_rows at v w names = (
    (λ row. row_under row at v (top_in (call ∷ calls) row) (max (cond (at == row) w 0) (greatest row rows))
        (row_under row at w (top_in (call ∷ calls) row) (greatest row rows) (old_row row) (λ e. rows_named [] calls call row w rise (names row e).1))
        (λ e. rows_named [] calls call row v rise (names row e).0)),
    old_word,
  )

  one_word : (at v : ℕ) → ((word : ℕ) → at ≡ word → NamesWord call word v) → IsUnder rows (change_at at v ∷ words) (call ∷ calls)
  one_word at v names = (old_row, (λ word low. row_under word at v (top_word (call ∷ calls) word) (greatest word words) (old_word word low) (λ e. words_named [] calls call word v low rise (names word e))))

under_step : (rows words : List Change) (call : Call) (calls : List Call) → CallsRise (call ∷ calls) → IsUnder rows words calls → IsUnder (onto_rows (told call) rows) (onto_words (told call) words) (call ∷ calls)
under_step rows words (Adds at amount (Counted r v)) calls rise u = one_row rows words (Adds at amount (Counted r v)) calls rise u r v (λ row e. (e, refl))
under_step rows words (Adds at amount (Held r v w)) calls rise u = two_rows rows words (Adds at amount (Held r v w)) calls rise u r (v / 4) (w / 4) (λ row e. ((e, inl refl), (e, inr refl)))
under_step rows words (Rings at content (Done v)) calls rise u = one_row rows words (Rings at content (Done v)) calls rise u at v (λ row e. (e, refl))
under_step rows words (Rings at content (Busy v w)) calls rise u = two_rows rows words (Rings at content (Busy v w)) calls rise u at (v / 4) (w / 4) (λ row e. ((e, inl refl), (e, inr refl)))
under_step rows words (Rings at content (Late t v)) calls rise u = (old_row rows words (Rings at content (Late t v)) calls rise u, old_word rows words (Rings at content (Late t v)) calls rise u)
under_step rows words (Reads at (sees.Whole v found)) calls rise u = one_row rows words (Reads at (sees.Whole v found)) calls rise u at v (λ row e. (e, refl))
under_step rows words (Reads at (sees.Free w)) calls rise u = (old_row rows words (Reads at (sees.Free w)) calls rise u, old_word rows words (Reads at (sees.Free w)) calls rise u)
under_step rows words (Reads at (sees.Busy v w)) calls rise u = two_rows rows words (Reads at (sees.Busy v w)) calls rise u at (v / 4) (w / 4) (λ row e. ((e, inl refl), (e, inr refl)))
under_step rows words (Loads at v found) calls rise u = one_word rows words (Loads at v found) calls rise u at v (λ word e. (e, refl))
under_step rows words (Draws kind ticket) calls rise u = (old_row rows words (Draws kind ticket) calls rise u, old_word rows words (Draws kind ticket) calls rise u)
under_step rows words (Meets versions) calls rise u = (old_row rows words (Meets versions) calls rise u, old_word rows words (Meets versions) calls rise u)
under_step rows words (Takes at v found) calls rise u = (old_row rows words (Takes at v found) calls rise u, old_word rows words (Takes at v found) calls rise u)
under_step rows words (Puts at content v) calls rise u = one_row rows words (Puts at content v) calls rise u at v (λ row e. (e, refl))
under_step rows words (Frees at v) calls rise u = one_row rows words (Frees at v) calls rise u at v (λ row e. (e, refl))
under_step rows words (Sets at to v) calls rise u = one_word rows words (Sets at to v) calls rise u at v (λ word e. (e, refl))
under_step rows words (Enters label labels) calls rise u = (old_row rows words (Enters label labels) calls rise u, old_word rows words (Enters label labels) calls rise u)
under_step rows words Leaves calls rise u = (old_row rows words Leaves calls rise u, old_word rows words Leaves calls rise u)

-- a call that begins or ends an action names nothing new
pub under_entering : (rows words : List Change) (label : Label) (labels : List Label) (met : Option (List ℕ)) (calls : List Call) → CallsRise (entering label labels met ++ calls) → IsUnder rows words calls
    → IsUnder rows words (entering label labels met ++ calls)
under_entering rows words label labels None calls rise u = under_step rows words (Enters label labels) calls rise u
under_entering rows words label labels (Some versions) calls rise u =
    under_step rows words (Meets versions) (Enters label labels ∷ calls) rise (under_step rows words (Enters label labels) calls rise.1 u)

pub under_leaves : (rows words : List Change) (calls : List Call) → CallsRise (Leaves ∷ calls) → IsUnder rows words calls → IsUnder rows words (Leaves ∷ calls)
under_leaves rows words calls rise u = under_step rows words Leaves calls rise u

pub within_after : (xs base : List Call) → AreWithin xs → after_in (xs ++ base) ≡ after_in base
within_after [] base w = refl
within_after (Enters label labels ∷ xs) base w = absurd w.0
within_after (Leaves ∷ xs) base w = absurd w.0
within_after (Adds row amount answer ∷ xs) base w = within_after xs base w.1
within_after (Rings row content answer ∷ xs) base w = within_after xs base w.1
within_after (Reads row seen ∷ xs) base w = within_after xs base w.1
within_after (Loads at version flags ∷ xs) base w = within_after xs base w.1
within_after (Draws kind ticket ∷ xs) base w = within_after xs base w.1
within_after (Meets versions ∷ xs) base w = within_after xs base w.1
within_after (Takes row version found ∷ xs) base w = within_after xs base w.1
within_after (Puts row content version ∷ xs) base w = within_after xs base w.1
within_after (Frees row version ∷ xs) base w = within_after xs base w.1
within_after (Sets at flags version ∷ xs) base w = within_after xs base w.1

-- of one call among the others
module _ (before : List (List Call)) (all : List Placed) (phase session done : ℕ) (m : Moment) (p : Printed all phase session done before (phase_of m) (others_of m)) (rows words : List Change) (u : IsUnder rows words m.earlier) where
  abbrev F : List Change → List Change → Note → Type 0
  F = Fits all phase session done

  abbrev last_of : ℕ → ℕ
  last_of row = count (changes_of (all_calls (phase_of m ++ before))) row

  abbrev last_set : ℕ → ℕ
  last_set word = word_version (sets_of (all_calls (phase_of m ++ before))) word

  is_up : (row v : ℕ) → IsNotBelow before m done row v → IsUp all phase session done rows row v
  is_up row v a = record { began = omega (arith, a.began, p.began row); own = omega (arith, a.own, u.0 row); given = p.above_is row v a.given }

  is_over : (row v : ℕ) → IsAbove before m done row v → v ≤ last_of row → IsOver all phase session done rows row v
  is_over row v a h = record {
    began = omega (arith, a.began, p.began row);
    own = omega (arith, a.own, u.0 row);
    given = (p.reaching_is row v a.given).0;
    released = (p.reaching_is row v a.given).1;
    had = omega (arith, h, p.had row);
  }

  is_read : (row v : ℕ) → 0 < row → IsNotBelow before m done row v → IsUnreleased before m done row v → v ≤ last_of row → IsRead all phase session done rows row v
  is_read row v up a r h = record {
    up = is_up row v a;
    released = p.released_is row v r.released;
    stood = λ free. elim (cases_lt (count (changes_of (all_calls before)) row) v) [
      | inl more ↦ omega (arith, more, p.began row)
      | inr most ↦
          let e : v ≡ count (changes_of (all_calls before)) row = omega (arith, most, a.began) in
          absurd (r.stood (subst (λ z. 0 < frees_at (changes_of (all_calls before)) row z) (sym e) (p.free row up free)) e)
    ];
    had = omega (arith, h, p.had row);
  }

  is_freed : (row v : ℕ) → IsNotBelow before m done row v → v ≤ last_of row → IsFreed all phase session done rows row v
  is_freed row v a h = record { up = is_up row v a; had = omega (arith, h, p.had row) }

  is_loaded : (word v : ℕ) → word < 160 → IsLoadedAbove before m done word v → v ≤ last_set word → IsLoaded all phase session done words word v
  is_loaded word v low a h = record {
    began = omega (arith, a.began, p.words_began word);
    own = omega (arith, a.own, u.1 word low);
    given = p.words_above word v a.given;
    had = omega (arith, h, p.words_had word);
  }

  is_set : (word v : ℕ) → word < 160 → IsSetAbove before m done word v → v ≤ last_set word → IsLoaded all phase session done words word v
  is_set word v low a h = record {
    began = omega (arith, a.began, p.words_began word);
    own = omega (arith, a.own, u.1 word low);
    given = p.words_reaching word v a.given;
    had = omega (arith, h, p.words_had word);
  }

  others_made : (row k : ℕ) → 0 < row → IsOthers before m row k → WasMade all phase session done row (k + 1) ⊎ WasFreed all phase session done row k
  others_made row k up (inl theirs) = inl (p.made row (k + 1) up theirs)
  others_made row k up (inr free) = inr (p.freed_is row k up free)

  busy : (first second : ℕ) → ((first % 4 ≡ 1) × (second ≡ first)) ⊎ ((second ≢ first) × (first / 4 ≤ second / 4) × (first / 4 ≡ second / 4 → second % 4 ≢ 2)) → AreBusy first second
  busy first second (inl e) = inl e
  busy first second (inr e) = inr (e.0, e.1, λ q. e.2 (sym q))

  grows : (first second : ℕ) → ((first % 4 ≡ 1) × (second ≡ first)) ⊎ ((second ≢ first) × (first / 4 ≤ second / 4) × (first / 4 ≡ second / 4 → second % 4 ≢ 2)) → first / 4 ≤ second / 4
  grows first second (inl e) = omega (arith, ap (λ z. z / 4) e.1)
  grows first second (inr e) = e.1

  is_refused : (row first second : ℕ) → 0 < row → WasOthers before m done row first second → IsRefused all phase session done rows row first second
  is_refused row first second up w = record {
    up = record { began = omega (arith, w.began, p.began row); own = omega (arith, w.own, u.0 row); given = p.above_is row (first / 4) w.given };
    rises = grows first second w.order;
    states = w.states;
    words = busy first second w.order;
    had = omega (arith, w.had, p.had row);
    between = λ v low high. p.made row v up (w.between v low high);
    first_held = λ d. others_made row (first / 4) up (w.first_dirty d);
    second_held = λ d. others_made row (second / 4) up (w.second_dirty d);
    freed = λ f. p.freed_is row (second / 4) up (w.second_free f);
  }

  is_vacant : (row word : ℕ) → 0 < row → WasFree before m done row word → IsVacant all phase session done rows row
  is_vacant row word up w = record {
    version = w.version;
    up = record { began = omega (arith, w.began, p.began row); own = omega (arith, w.own, u.0 row); given = p.above_is row w.version (w.given up) };
    stood = p.stood row w.version up w.stood;
  }

  is_overdue : (content : ℕ → ℕ → List ℕ) (row greater v : ℕ) → WasLate content before m done row greater v → IsPut all phase session done row v greater → IsOverdue all phase session done rows row greater
  is_overdue content row greater v w put = record {
    version = v;
    up = record { began = omega (arith, w.began, p.began row); own = omega (arith, w.own, u.0 row); given = p.above_is row v w.given };
    is_put = put;
  }

  call_fits : (content : ℕ → ℕ → List ℕ) (call : Call) → IsNear call → Keeps before m done call → HasCause content before m done call → ((row v : ℕ) → 0 < row → Names call row v → v ≤ last_of row)
      → ((word v : ℕ) → word < 160 → NamesWord call word v → v ≤ last_set word)
      → ((row greater v : ℕ) (put : List ℕ) → call ≡ Rings row put (Late greater v) → IsRow row → word_of (content row v) ≡ greater + 1 → v ≤ last_of row → IsPut all phase session done row v greater) → AllFit F rows words (told call)
  call_fits content (Adds at amount (Counted r v)) near k c had set_had late = (is_over r v (k near.0) (had r v near.0 (refl, refl)), tt)
  call_fits content (Adds at amount (Held r v w)) near k c had set_had late = (is_refused r v w near.0 (c near.0), tt)
  call_fits content (Rings at put (Done v)) near k c had set_had late = (is_over at v (k near.0) (had at v near.0 (refl, refl)), tt)
  call_fits content (Rings at put (Busy v w)) near k c had set_had late = (is_refused at v w near.0 (c near.0), tt)
  call_fits content (Rings at put (Late t v)) near k c had set_had late =
      let w = c near.0 in
      (is_overdue content at t v w (late at t v put refl near w.holds w.had), tt)
  call_fits content (Reads at (sees.Whole v found)) near k c had set_had late = (is_read at v near.0 (k near.0).0 (k near.0).1 (had at v near.0 (refl, refl)), tt)
  call_fits content (Reads at (sees.Free w)) near k c had set_had late = (is_vacant at w near.0 c, tt)
  call_fits content (Reads at (sees.Busy v w)) near k c had set_had late = (is_refused at v w near.0 (c near.0), tt)
  call_fits content (Loads at v found) near k c had set_had late = (is_loaded at v near k (set_had at v near (refl, refl)), tt)
  call_fits content (Draws kind ticket) near k c had set_had late = tt
  call_fits content (Meets versions) near k c had set_had late = tt
  call_fits content (Takes at v found) near k c had set_had late = tt
  call_fits content (Puts at put v) near k c had set_had late = (is_over at v (k near.0) (had at v near.0 (refl, refl)), tt)
  call_fits content (Frees at v) near k c had set_had late = (is_freed at v (k near.0) (had at v near.0 (refl, refl)), tt)
  call_fits content (Sets at to v) near k c had set_had late = (is_set at v near k (set_had at v near (refl, refl)), tt)
  call_fits content (Enters label labels) near k c had set_had late = (tt, tt)
  call_fits content Leaves near k c had set_had late = tt

-- an actor among those of its phase, and what is printed of all of them
pub record Scene (flags : List ℕ) (all : List Placed) (phase session done : ℕ) (before front behind : List (List Call)) (own : List Call) : Type 0 where
  pub shared : IsShared flags before (front ++ own ∷ behind)
  pub whole : AllCalls AreWhole (front ++ own ∷ behind)
  pub printed : Printed all phase session done before (front ++ own ∷ behind) (front ++ behind)
  pub late : (later earlier : List Call) (row greater version : ℕ) (put : List ℕ) → own ≡ later ++ Rings row put (Late greater version) ∷ earlier → IsRow row → word_of (shared.content row version) ≡ greater + 1
      → version ≤ count (changes_of (all_calls ((front ++ own ∷ behind) ++ before))) row → IsPut all phase session done row version greater

-- what an actor's calls tell inside an action, or outside of any
module _ (floors : FloorsLaw) (causes : CausesLaw) (rows_had : HadLaw) (words_had : WordHadLaw) (flags : List ℕ) (all : List Placed) (phase session done : ℕ) (before front behind : List (List Call)) (ended : HaveEnded before) where
  pub calls_fit : (later xs base : List Call) → Scene flags all phase session done before front behind (later ++ (xs ++ base)) → AreWithin xs → WereDone before base done → Each IsNear xs → CallsRise (xs ++ base)
      → (rows words : List Change) → IsUnder rows words base
      → AllFit (Fits all phase session done) rows words (all_told xs) × IsUnder (onto_rows (all_told xs) rows) (onto_words (all_told xs) words) (xs ++ base)
  unfolding all_told
  calls_fit later [] base scene w were near rise rows words u = (tt, u)
  calls_fit later (c ∷ ys) base scene w were near rise rows words u =
      let F : List Change → List Change → Note → Type 0 = Fits all phase session done in
      let S : List Call → Type 0 = Scene flags all phase session done before front behind in
      let r = calls_fit (later ++ c ∷ []) ys base (subst S (sym (append_assoc later (c ∷ []) (ys ++ base))) scene) w.1 were near.1 rise.1 rows words u in
      let m : Moment = record { front = front; later = later; call = c; earlier = ys ++ base; behind = behind } in
      let so : WereDone before (ys ++ base) done = subst (λ n. (done ≤ n) ⊎ (done ≤ marked (all_marks before) 0)) (sym (within_after ys base w.1)) were in
      let mine : List Change = onto_rows (all_told ys) rows in
      let set : List Change = onto_words (all_told ys) words in
      let here : AllFit F mine set (told c) =
      call_fits before all phase session done m scene.printed mine set r.1 scene.shared.content c near.0 (floors flags before m done scene.shared ended scene.whole so) (causes flags before m done scene.shared ended scene.whole so)
      (λ row v up names. rows_had flags before m row v scene.shared up names) (λ word v low names. words_had flags before m word v scene.shared low names)
      (λ row greater v put e. scene.late later (ys ++ base) row greater v put (ap (λ z. later ++ z ∷ (ys ++ base)) e)) in (
        fit_then F rows words (all_told ys) (told c) r.0 here,
        subst (λ z. IsUnder z (onto_words (all_told ys ++ told c) words) (c ∷ (ys ++ base))) (sym (onto_rows_then (all_told ys) (told c) rows))
            (subst (λ z. IsUnder (onto_rows (told c) mine) z (c ∷ (ys ++ base))) (sym (onto_words_then (all_told ys) (told c) words)) (under_step mine set c (ys ++ base) rise r.1)),
      )
