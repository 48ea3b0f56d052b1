-- The order of the actions in the journals of sessions at once.
use Rattle.std.proofs.Common.{ℕ, ◌≡◌, ◌+◌, ◌<◌, ◌≤◌, ◌==◌, Bool, true, false, not, cond, ◌&&◌, List, [], ◌∷◌, ◌++◌, map, length, Option, Some, None, IfSome, inl, inr, refl, ap, sym, ◌∙◌, subst, arith, append-nil, append_assoc, eq-eqb, ne_eqb}
use Rattle.std.specs.Prelude.{nat_lt, nat_le, Ok}
use Rattle.std.proofs.lemmas.Bool.{cases_eq, and_from}
use Rattle.pfs_board.specs.declared.view.Label.{Label}
use Rattle.pfs_event.specs.declared.entry.Entry.{Entry}
use Rattle.pfs_event.specs.declared.entry.Entry.TheVariants as says
use Rattle.pfs_levels.specs.Calls.{Call, Adds, Rings, Reads, Loads, Draws, Takes, Puts, Frees, Sets, Enters, Leaves, Meets}
use Rattle.pfs_levels.specs.CallOrder.{AllCalls, Mark, marks_of, all_marks, word_marks_of, all_word_marks}
use Rattle.pfs_levels.specs.JointCalls.{total, one_if, At, IsCounted, at_put, at_free, changes_of, sets_of, count}
use Rattle.pfs_levels.specs.declared.answers.Added.TheVariants.{Counted, Held}
use Rattle.pfs_levels.specs.declared.answers.RingPut.TheVariants.{Done, Busy, Late}
use Rattle.pfs_model.proofs.ActionGuards.{cut_guarded, shape_guards}
use Rattle.pfs_model.specs.Actions.{Deed, deed_at, set_at, deeds_by, deeds_of, NeverFall, IsAmong}
use Rattle.pfs_model.specs.Actions.{sets_of as printed_sets}
use Rattle.pfs_model.specs.Chains.{Each, IsChained, times, is_of, is_that, change_at, action_change, each_of}
use Rattle.pfs_model.specs.Contexts.{Context, turned, after}
use Rattle.pfs_model.specs.EntryPlaces.{Placed, placed_part, placed_lines, up_to_phase, AreShapedBehind}
use Rattle.pfs_model.specs.JournalCuts.{AreShaped}
use Rattle.pfs_model.specs.Cuts.{cut}
use Rattle.pfs_model.specs.Shapes.{shape}
use Rattle.pfs_model.specs.declared.lines.Line.{Line}
use Rattle.pfs_model.specs.declared.changes.Change.{Change}
use Rattle.pfs_session.specs.SessionStates.{State}
use Rattle.pfs_session.specs.Turns.{state_after}
use Rattle.pfs_law_session.specs.Deeds.{Part, IsPart, action_of, line_of, part_calls, part_entries}
use Rattle.pfs_law_session.specs.JournalLaws.{AreParts, lines_of, entries_of}
use Rattle.pfs_law_session.specs.Stints.{blocks_of}
use Rattle.pfs_law_plain.proofs.PhaseFronts.{entries_front}
use Rattle.pfs_law_plain.specs.RunRules.{entries_of as all_entries}
use Rattle.pfs_law_plain.specs.SessionNotes.{Sits, ToldLaw}
use Rattle.pfs_law_plain.specs.Spells.{Doing, Spell, AreSpells, doings_calls, doing_calls, label_of, parts_in, stints_of, AreEntered}
use Rattle.pfs_law_plain.specs.Weights.{put_at, WeighedLaw}
use Rattle.pfs_law_joint.specs.Deeds.{WasDone, RowsLaw, WordsLaw}
use Rattle.pfs_law_joint.specs.Deeds.{Deed as WholeDeed}
use Rattle.pfs_law_joint.specs.Versions.{at_mark, at_set, ChainLaw, MarksLaw}
use Rattle.pfs_law_joint.specs.Versions.{IsChained as IsChain}
use Rattle.pfs_law_joint.proofs.Sums.{total_then, total_map}
use Rattle.pfs_law_joint.proofs.VersionChains.{log_count}
use Rattle.pfs_law_shared.specs.Shares.{actors_of, spells_at, spells_before, AreShared}
use Rattle.pfs_law_shared.specs.Journals.{AgreedLaw}
use Rattle.pfs_law_shared.specs.Order.{IsNear, AllNear, HaveOrder}
use Rattle.pfs_law_shared.proofs.ActionNotes.{acts, act_by, acts_of, places_acts, parts_acts}
use Rattle.pfs_law_shared.proofs.AgreedCalls.{calls_front, calls_back}
use Rattle.pfs_law_shared.proofs.DoingMarks.{acted, number_of, own_number, doings_weigh, doings_sets, doings_marks, doings_words}
use Rattle.pfs_law_shared.proofs.PartDeeds.{at_deed, IsGiven, deeds_given, sets_given, deeds_low, sets_same, IsOwnNumber, changes, sets, own_deeds}
use Rattle.pfs_law_shared.proofs.PhaseChains.{put_times, put_any, times_then}
use Rattle.pfs_law_shared.proofs.PhaseWeights.{each_then}
use Rattle.pfs_law_shared.proofs.PlainNear.{near_back, near_front, around_near}
use Rattle.pfs_law_shared.proofs.PhaseWalks.{IsSum, same_kept, low_kept, sum_up_to, IsRelated, walked, over, phase_over}

-- what all actors marked, actor by actor
pub marks_over : (h : Mark → ℕ) (actors : List (List Call)) → total h (all_marks actors) ≡ over (λ calls. total h (marks_of calls)) actors
unfolding total all_marks
marks_over h [] = refl
marks_over h (calls ∷ actors) = omega (arith, total_then h (marks_of calls) (all_marks actors), marks_over h actors)

pub word_marks_over : (h : Mark → ℕ) (actors : List (List Call)) → total h (all_word_marks actors) ≡ over (λ calls. total h (word_marks_of calls)) actors
unfolding total all_word_marks
word_marks_over h [] = refl
word_marks_over h (calls ∷ actors) = omega (arith, total_then h (word_marks_of calls) (all_word_marks actors), word_marks_over h actors)

-- sums over deeds
deeds_then : (given : ℕ → Entry → List Deed) (xs ys : List Placed) → deeds_by given (xs ++ ys) ≡ deeds_by given xs ++ deeds_by given ys
deeds_then given [] ys = refl
deeds_then given (x ∷ xs) ys = ap (λ z. given x.context.action x.entry ++ z) (deeds_then given xs ys) ∙ sym (append_assoc (given x.context.action x.entry) (deeds_by given xs) (deeds_by given ys))

deeds_sum : (given : ℕ → Entry → List Deed) (weigh : Deed → ℕ) → IsSum (λ ps. total weigh (deeds_by given ps))
unfolding total
deeds_sum given weigh = record {
  none = refl;
  both = λ xs ys. ap (total weigh) (deeds_then given xs ys) ∙ total_then weigh (deeds_by given xs) (deeds_by given ys);
}

numbers_sum : (h : ℕ → ℕ) → IsSum (λ ps. total (λ c. h c.version) (each_of action_change ps))
unfolding total
numbers_sum h = record {
  none = refl;
  both = λ xs ys. ap (total (λ c. h c.version)) (each_then action_change xs ys) ∙ total_then (λ c. h c.version) (each_of action_change xs) (each_of action_change ys);
}

-- deeds of one number
deed_sum : (weigh : Deed → ℕ) (low : Deed → ℕ) (P : Deed → Type 0) → ((d : Deed) → P d → weigh d ≡ low d) → (ds : List Deed) → Each P ds → total weigh ds ≡ total low ds
unfolding total
deed_sum weigh low P same [] each = refl
deed_sum weigh low P same (d ∷ ds) each = omega (arith, same d each.0, deed_sum weigh low P same ds each.1)

no_deeds : (weigh : Deed → ℕ) (ds : List Deed) → Each (λ d. ⊥) ds → total weigh ds ≡ 0
unfolding total
no_deeds weigh [] each = refl
no_deeds weigh (d ∷ ds) each = absurd each.0

above : (row : ℕ) → 0 < row → (row == 0) ≡ false
above row up = ne_eqb row 0 (λ e. omega (arith, up, e))

-- near calls change no row 0
off_zero : (h : At → ℕ) → ((x : At) → (x.row == 0) ≡ false → h x ≡ 0) → (calls : List Call) → Each IsNear calls → total h (changes_of calls) ≡ 0
unfolding total changes_of
off_zero h off [] near = refl
off_zero h off (Adds at amount (Counted r v) ∷ calls) near = omega (arith, off (at_put r v) (above r near.0.0), off_zero h off calls near.1)
off_zero h off (Adds at amount (Held r v w) ∷ calls) near = off_zero h off calls near.1
off_zero h off (Rings at content (Done v) ∷ calls) near = omega (arith, off (at_put at v) (above at near.0.0), off_zero h off calls near.1)
off_zero h off (Rings at content (Busy v w) ∷ calls) near = off_zero h off calls near.1
off_zero h off (Rings at content (Late t v) ∷ calls) near = off_zero h off calls near.1
off_zero h off (Reads at seen ∷ calls) near = off_zero h off calls near.1
off_zero h off (Loads at v found ∷ calls) near = off_zero h off calls near.1
off_zero h off (Draws kind ticket ∷ calls) near = off_zero h off calls near.1
off_zero h off (Meets versions ∷ calls) near = off_zero h off calls near.1
off_zero h off (Takes at v found ∷ calls) near = off_zero h off calls near.1
off_zero h off (Puts at content v ∷ calls) near = omega (arith, off (at_put at v) (above at near.0.0), off_zero h off calls near.1)
off_zero h off (Frees at v ∷ calls) near = omega (arith, off (at_free at v) (above at near.0.0), off_zero h off calls near.1)
off_zero h off (Sets at to v ∷ calls) near = off_zero h off calls near.1
off_zero h off (Enters label labels ∷ calls) near = off_zero h off calls near.1
off_zero h off (Leaves ∷ calls) near = off_zero h off calls near.1

-- of one line
module _ (g : At → ℕ → ℕ) where
  abbrev under : Deed → ℕ
  under d = g (at_deed d) d.action

  deed_bound : (action : Option ℕ) (ds : List Deed) (calls : List Call) → Each (λ d. IsOwnNumber action d.action) ds → ((k : At → ℕ) → total (λ d. k (at_deed d)) ds ≤ total k (changes_of calls))
      → total under ds ≤ own_number g action + total (λ x. g x (number_of g action)) (changes_of calls)
  deed_bound None ds calls each low = omega (arith, no_deeds under ds each)
  deed_bound (Some number) ds calls each low =
      let same = deed_sum under (λ d. g (at_deed d) number) (λ d. d.action ≡ number) (λ d e. ap (g (at_deed d)) e) ds each in
      omega (arith, same, low (λ x. g x number))

  set_bound : (action : Option ℕ) (ds : List Deed) (calls : List Call) → Each (λ d. IsOwnNumber action d.action) ds → ((k : At → ℕ) → total (λ d. k (at_deed d)) ds ≤ total (λ s. k (at_set s)) (sets_of calls))
      → total under ds ≤ total (λ s. g (at_set s) (number_of g action)) (sets_of calls)
  set_bound None ds calls each low = omega (arith, no_deeds under ds each)
  set_bound (Some number) ds calls each low =
      let same = deed_sum under (λ d. g (at_deed d) number) (λ d. d.action ≡ number) (λ d e. ap (g (at_deed d)) e) ds each in
      omega (arith, same, low (λ x. g x number))

abbrev unnumbered : Deed → ℕ
unnumbered d = one_if (d.action == 0)

zeros : (ds : List Deed) → total (λ d. 0) ds ≡ 0
unfolding total
zeros [] = refl
zeros (d ∷ ds) = omega (arith, zeros ds)

numbered_part : (action : Option ℕ) (count : ℕ) (ds : List Deed) → Each (λ d. IsOwnNumber action d.action) ds → IfSome action (λ number. number ≡ count + 1) → total unnumbered ds ≡ 0
numbered_part None count ds each is = no_deeds unnumbered ds each
numbered_part (Some number) count ds each is =
    deed_sum unnumbered (λ d. 0) (λ d. d.action ≡ number) (λ d e. ap one_if (ne_eqb d.action 0 (λ z. omega (arith, e, is, z)))) ds each ∙ zeros ds

counted : (action : Option ℕ) (s : State) (label : Label) (labels : List Label) → IfSome action (λ number. (number ≡ length labels + 1) × (label ≡ label_of s)) → IfSome action (λ number. number ≡ length labels + 1)
counted None s label labels e = tt
counted (Some number) s label labels e = e.0

-- of the lines of a block
module _ (told : ToldLaw) (weighed : WeighedLaw) where
  next_sits : (context : Context) (s : State) (d : Doing) → Sits context s → IsPart s d.part → Sits (after context (line_of d.part.deed) (part_entries d.part)) (state_after s d.part.turns)
  next_sits context s d sits is = (told context s (d.part ∷ []) sits (is, tt)).sits

  line_deeds : (given : ℕ → Entry → List Deed) → IsGiven given → (phase session : ℕ) (context : Context) (s : State) (d : Doing) → Sits context s → IsPart s d.part → cut (shape context (line_of d.part.deed)) (part_entries d.part) ≡ Ok []
      → Each (λ e. IsOwnNumber (action_of d.part.deed) e.action) (deeds_by given (placed_part phase session (line_of d.part.deed) (turned context) (part_entries d.part)))
  line_deeds given gives phase session context s d sits is fits =
      own_deeds told weighed phase session context s d.part sits is given gives (cut_guarded (shape context (line_of d.part.deed)) (part_entries d.part) (shape_guards context (line_of d.part.deed)) fits)

  block_deeds : (g : At → ℕ → ℕ) (phase session : ℕ) (context : Context) (s : State) (ds : List Doing) → Sits context s → AreParts s (parts_in ds) → AreShaped context (lines_of (parts_in ds)) (entries_of (parts_in ds))
      → total (under g) (deeds_by deed_at (placed_lines phase session context (lines_of (parts_in ds)) (entries_of (parts_in ds)))) ≤ doings_weigh g ds
  unfolding total
  block_deeds g phase session context s [] sits are shaped = omega arith
  block_deeds g phase session context s (d ∷ ds) sits are shaped =
      let line : Line = line_of d.part.deed in
      let own : List Placed = placed_part phase session line (turned context) (part_entries d.part) in
      let next : Context = after context line (part_entries d.part) in
      let rest : List Placed = placed_lines phase session next (lines_of (parts_in ds)) (entries_of (parts_in ds)) in
      let both = (deeds_sum deed_at (under g)).both own rest in
      let each = line_deeds deed_at deeds_given phase session context s d sits are.0 shaped.0 in
      let here = deed_bound g (action_of d.part.deed) (deeds_by deed_at own) (part_calls d.part) each
      (λ k. omega (arith, deeds_low k own, changes told weighed phase session context s d.part sits are.0 k)) in
      omega (arith, both, here, block_deeds g phase session next (state_after s d.part.turns) ds (next_sits context s d sits are.0) are.1 shaped.1)

  block_sets : (g : At → ℕ → ℕ) (phase session : ℕ) (context : Context) (s : State) (ds : List Doing) → Sits context s → AreParts s (parts_in ds) → AreShaped context (lines_of (parts_in ds)) (entries_of (parts_in ds))
      → total (under g) (deeds_by set_at (placed_lines phase session context (lines_of (parts_in ds)) (entries_of (parts_in ds)))) ≤ doings_sets g ds
  unfolding total
  block_sets g phase session context s [] sits are shaped = omega arith
  block_sets g phase session context s (d ∷ ds) sits are shaped =
      let line : Line = line_of d.part.deed in
      let own : List Placed = placed_part phase session line (turned context) (part_entries d.part) in
      let next : Context = after context line (part_entries d.part) in
      let rest : List Placed = placed_lines phase session next (lines_of (parts_in ds)) (entries_of (parts_in ds)) in
      let both = (deeds_sum set_at (under g)).both own rest in
      let each = line_deeds set_at sets_given phase session context s d sits are.0 shaped.0 in
      let here = set_bound g (action_of d.part.deed) (deeds_by set_at own) (part_calls d.part) each
      (λ k. omega (arith, sets_same k own, sets told weighed phase session context s d.part sits are.0 k)) in
      omega (arith, both, here, block_sets g phase session next (state_after s d.part.turns) ds (next_sits context s d sits are.0) are.1 shaped.1)

  block_numbered : (given : ℕ → Entry → List Deed) → IsGiven given → (phase session : ℕ) (context : Context) (s : State) (ds : List Doing) → Sits context s → AreParts s (parts_in ds) → AreEntered s ds
      → AreShaped context (lines_of (parts_in ds)) (entries_of (parts_in ds))
      → total unnumbered (deeds_by given (placed_lines phase session context (lines_of (parts_in ds)) (entries_of (parts_in ds)))) ≡ 0
  unfolding total
  block_numbered given gives phase session context s [] sits are entered shaped = refl
  block_numbered given gives phase session context s (d ∷ ds) sits are entered shaped =
      let line : Line = line_of d.part.deed in
      let own : List Placed = placed_part phase session line (turned context) (part_entries d.part) in
      let next : Context = after context line (part_entries d.part) in
      let rest : List Placed = placed_lines phase session next (lines_of (parts_in ds)) (entries_of (parts_in ds)) in
      let both = (deeds_sum given unnumbered).both own rest in
      let each = line_deeds given gives phase session context s d sits are.0 shaped.0 in
      let here = numbered_part (action_of d.part.deed) (length d.labels) (deeds_by given own) each (counted (action_of d.part.deed) s d.label d.labels entered.0) in
      omega (arith, both, here, block_numbered given gives phase session next (state_after s d.part.turns) ds (next_sits context s d sits are.0) are.1 entered.1 shaped.1)

  -- what the spells up to a phase print as deeds, as sets and as numbers
  deeds_related : (g : At → ℕ → ℕ) → IsRelated (λ a b. a ≤ b) (λ ps. total (under g) (deeds_by deed_at ps)) (λ spell. total (acted g) (marks_of (doings_calls spell.doings)))
  deeds_related g = λ context s spell sits are entered near shaped.
      omega (arith, block_deeds g spell.phase spell.session context s spell.doings sits are shaped, doings_marks g s spell.doings are entered)

  sets_related : (g : At → ℕ → ℕ) → IsRelated (λ a b. a ≤ b) (λ ps. total (under g) (deeds_by set_at ps)) (λ spell. total (acted g) (word_marks_of (doings_calls spell.doings)))
  sets_related g = λ context s spell sits are entered near shaped.
      omega (arith, block_sets g spell.phase spell.session context s spell.doings sits are shaped, doings_words g s spell.doings are entered)

  numbered_related : (given : ℕ → Entry → List Deed) → IsGiven given → IsRelated (λ a b. a ≡ b) (λ ps. total unnumbered (deeds_by given ps)) (λ spell. 0)
  numbered_related given gives = λ context s spell sits are entered near shaped. block_numbered given gives spell.phase spell.session context s spell.doings sits are entered shaped

  doings_numbers : (h : At → ℕ) → ((x : At) → (x.row == 0) ≡ false → h x ≡ 0) → (ds : List Doing) → Each IsNear (doings_calls ds) → doings_weigh (λ x action. h x) ds ≡ total (λ c. h (at_put 0 c.version)) (acts_of (parts_in ds))
  unfolding total
  doings_numbers h off [] near = refl
  doings_numbers h off (d ∷ ds) near =
      let own = off_zero h off (part_calls d.part) (around_near d.label d.labels d.met (action_of d.part.deed) (part_calls d.part) (near_back (doings_calls ds) (doing_calls d) near)) in
      let t = total_then (λ c. h (at_put 0 c.version)) (act_by (action_of d.part.deed)) (acts_of (parts_in ds)) in
      omega (arith, own, t, same (action_of d.part.deed), doings_numbers h off ds (near_front (doings_calls ds) (doing_calls d) near)) where
        same : (action : Option ℕ) → own_number (λ x number. h x) action ≡ total (λ c. h (at_put 0 c.version)) (act_by action)
        same None = refl
        same (Some number) = omega arith

  numbers_related : (h : At → ℕ) → ((x : At) → (x.row == 0) ≡ false → h x ≡ 0)
      → IsRelated (λ a b. a ≡ b) (λ ps. total (λ c. h (at_put 0 c.version)) (each_of action_change ps)) (λ spell. total (acted (λ x action. h x)) (marks_of (doings_calls spell.doings)))
  numbers_related h off = λ context s spell sits are entered near shaped.
      (let ps : List Part = parts_in spell.doings in
      let placed : List Placed = placed_lines spell.phase spell.session context (lines_of ps) (entries_of ps) in
      let t = (told context s ps sits are).same spell.phase spell.session in
      ap (total (λ c. h (at_put 0 c.version))) (places_acts placed ∙ (ap acts t ∙ parts_acts s ps are))
      ∙ (sym (doings_numbers h off spell.doings near) ∙ sym (doings_marks (λ x action. h x) s spell.doings are entered)))

-- a deed of a list weighs in it
among_low : (weigh : Deed → ℕ) (d : Deed) (ds : List Deed) → IsAmong d ds → weigh d ≤ total weigh ds
unfolding total
among_low weigh d [] is = absurd is
among_low weigh d (x ∷ xs) (inl e) = omega (arith, ap weigh e)
among_low weigh d (x ∷ xs) (inr is) = omega (arith, among_low weigh d xs is)

abbrev done_of : Deed → WholeDeed
done_of d = record { action = d.action; row = d.row; version = d.version; releases = d.releases }

abbrev test_of : Deed → At → ℕ → ℕ
test_of d x number = one_if ((x.row == d.row) && ((x.version == d.version) && ((number == d.action) && cond d.releases (not x.puts) x.puts)))

own_test : (d : Deed) → test_of d (at_deed d) d.action ≡ 1
own_test d =
    let way_of : Bool = cond d.releases (not (not d.releases)) (not d.releases) in
    let by_action = and_from (d.action == d.action) way_of (eq-eqb d.action d.action refl) (way d.releases) in
    let by_version = and_from (d.version == d.version) ((d.action == d.action) && way_of) (eq-eqb d.version d.version refl) by_action in
    ap one_if (and_from (d.row == d.row) ((d.version == d.version) && ((d.action == d.action) && way_of)) (eq-eqb d.row d.row refl) by_version) where
      way : (r : Bool) → cond r (not (not r)) (not r) ≡ true
      way true = refl
      way false = refl

zero_up_to : (most : ℕ) (spells : List Spell) → sum_up_to (λ spell. 0) most spells ≡ 0
zero_up_to most [] = refl
zero_up_to most (spell ∷ spells) = omega (arith, zero_up_to most spells, zero (nat_le spell.phase most)) where
  zero : (b : Bool) → cond {A = ℕ} b 0 0 ≡ 0
  zero true = refl
  zero false = refl

pub each_actor : (P : List Call → Type 0) (spells : List Spell) → AllCalls P (actors_of spells) → Each (λ spell. P (doings_calls spell.doings)) spells
each_actor P [] all = tt
each_actor P (spell ∷ spells) all = (
  (calls_back P (actors_of spells) (doings_calls spell.doings ∷ []) all).0,
  each_actor P spells (calls_front P (actors_of spells) (doings_calls spell.doings ∷ []) all),
)

pub each_near : (spells : List Spell) → AllNear spells → Each (λ spell. Each IsNear (doings_calls spell.doings)) spells
each_near spells all = each_actor (Each IsNear) spells all

-- printed numbers are versions of row 0
entry_zero : (h : At → ℕ) (e : Entry) → total (λ c. h (put_at c)) (action_change e) ≡ total (λ c. h (at_put 0 c.version)) (action_change e)
unfolding total
entry_zero h (says.Connect action thread account user host) = refl
entry_zero h (says.Act action) = refl
entry_zero h _ = refl

row_zero : (h : At → ℕ) (ps : List Placed) → total (λ c. h (put_at c)) (each_of action_change ps) ≡ total (λ c. h (at_put 0 c.version)) (each_of action_change ps)
unfolding total
row_zero h [] = refl
row_zero h (p ∷ ps) =
    let a = total_then (λ c. h (put_at c)) (action_change p.entry) (each_of action_change ps) in
    let b = total_then (λ c. h (at_put 0 c.version)) (action_change p.entry) (each_of action_change ps) in
    omega (arith, a, b, entry_zero h p.entry, row_zero h ps)

entry_none : (test : Change → Bool) → ((n : ℕ) → test (change_at 0 n) ≡ false) → (e : Entry) → times test (action_change e) ≡ 0
entry_none test off (says.Connect action thread account user host) = ap (λ b. cond {A = ℕ} b 1 0 + 0) (off action)
entry_none test off (says.Act action) = ap (λ b. cond {A = ℕ} b 1 0 + 0) (off action)
entry_none test off _ = refl

row_none : (test : Change → Bool) → ((n : ℕ) → test (change_at 0 n) ≡ false) → (ps : List Placed) → times test (each_of action_change ps) ≡ 0
row_none test off [] = refl
row_none test off (p ∷ ps) = omega (arith, times_then test (action_change p.entry) (each_of action_change ps), entry_none test off p.entry, row_none test off ps)

no_version : (v n : ℕ) → n ≡ 0 → ◌≡◌ {A = ℕ} 0 (cond (nat_lt 0 v && nat_le v n) 1 0)
no_version v n e = grind (arith, e)

numbers_chained : ChainLaw → (ps : List Placed) (log : List At) → IsCounted log
    → ((h : At → ℕ) → ((x : At) → (x.row == 0) ≡ false → h x ≡ 0) → total (λ c. h (at_put 0 c.version)) (each_of action_change ps) ≡ total h log) → IsChained (each_of action_change ps)
numbers_chained law ps log counts same = λ change. elim (cases_eq change.row 0) [
  | inl e ↦ subst (λ r. times (λ c. (c.row == r) && (c.version == change.version)) (each_of action_change ps)
      ≡ cond (nat_lt 0 change.version && nat_le change.version (times (λ c. c.row == r) (each_of action_change ps))) 1 0) (sym e) (at change.version)
  | inr off ↦ row_none (is_that change) (λ n. ap (λ b. b && (n == change.version)) (ne_eqb 0 change.row (λ z. off (sym z)))) ps
      ∙ no_version change.version (times (is_of change.row) (each_of action_change ps)) (row_none (is_of change.row) (λ n. ne_eqb 0 change.row (λ z. off (sym z))) ps)
] where
  at : (v : ℕ) → times (λ c. (c.row == 0) && (c.version == v)) (each_of action_change ps) ≡ cond (nat_lt 0 v && nat_le v (times (λ c. c.row == 0) (each_of action_change ps))) 1 0
  at v =
      let numbers : List Change = each_of action_change ps in
      let some : List At = map put_at numbers in
      let k : IsChain 0 log some = law 0 log some counts (λ h off. total_map put_at h numbers ∙ (row_zero h ps ∙ same h off)) in
      let n : count some 0 ≡ times (is_of 0) numbers = sym (log_count some 0) ∙ put_any numbers 0 in
      sym (put_times numbers (change_at 0 v)) ∙ (k.once v ∙ ap (λ z. one_if (nat_lt 0 v && nat_le v z)) n)

-- all of it
module _ (rows : RowsLaw) (words : WordsLaw) (chain : ChainLaw) (marks : MarksLaw) (agreed : AgreedLaw) (told : ToldLaw) (weighed : WeighedLaw)
    (flags : List ℕ) (stack : ℕ) (depths : ℕ → ℕ) (spells : List Spell) (last : ℕ) (are : AreSpells stack depths spells) (shared : AreShared flags spells) (near : AllNear spells)
    (low : Each (λ spell. spell.phase ≤ last) spells) where
  abbrev all : List Placed
  all = all_entries spells

  abbrev actors : ℕ → List (List Call)
  actors phase = actors_of (spells_at phase spells) ++ actors_of (spells_before phase spells)

  shaped : AreShapedBehind [] 0 (blocks_of (stints_of spells))
  shaped = (agreed flags stack depths spells last are.stints shared low).journals.shaped

  whole : up_to_phase last all ≡ all
  whole = subst (λ z. up_to_phase last (all_entries z) ≡ all) (append-nil spells) (entries_front last spells [] low tt)

  deeds_up_to : (g : At → ℕ → ℕ) → total (under g) (deeds_by deed_at all) ≤ total (acted g) (shared last).marks
  deeds_up_to g =
      let w = walked told (λ a b. a ≤ b) low_kept (λ ps. total (under g) (deeds_by deed_at ps)) (deeds_sum deed_at (under g)) (λ spell. total (acted g) (marks_of (doings_calls spell.doings))) (deeds_related told weighed g) last stack depths spells are.stints are.entered shaped (each_near spells near) in
      let m = marks_over (acted g) (actors last) ∙ phase_over (λ calls. total (acted g) (marks_of calls)) last spells in
      omega (arith, w, m, (shared last).order.once (acted g), ap (λ z. total (under g) (deeds_by deed_at z)) whole)

  sets_up_to : (g : At → ℕ → ℕ) → total (under g) (deeds_by set_at all) ≤ total (acted g) (shared last).words
  sets_up_to g =
      let w = walked told (λ a b. a ≤ b) low_kept (λ ps. total (under g) (deeds_by set_at ps)) (deeds_sum set_at (under g)) (λ spell. total (acted g) (word_marks_of (doings_calls spell.doings))) (sets_related told weighed g) last stack depths spells are.stints are.entered shaped (each_near spells near) in
      let m = word_marks_over (acted g) (actors last) ∙ phase_over (λ calls. total (acted g) (word_marks_of calls)) last spells in
      omega (arith, w, m, (shared last).order.words_once (acted g), ap (λ z. total (under g) (deeds_by set_at z)) whole)

  none_unnumbered : (given : ℕ → Entry → List Deed) → IsGiven given → total unnumbered (deeds_by given all) ≡ 0
  none_unnumbered given gives =
      sym (ap (λ z. total unnumbered (deeds_by given z)) whole)
      ∙ (walked told (λ a b. a ≡ b) same_kept (λ ps. total unnumbered (deeds_by given ps)) (deeds_sum given unnumbered) (λ spell. 0) (numbered_related told weighed given gives) last stack depths spells are.stints are.entered shaped (each_near spells near)
      ∙ zero_up_to last spells)

  is_numbered : (given : ℕ → Entry → List Deed) → IsGiven given → (d : Deed) → IsAmong d (deeds_by given all) → 0 < d.action
  is_numbered given gives d is = at (d.action == 0) refl (among_low unnumbered d (deeds_by given all) is) where
    at : (b : Bool) → (d.action == 0) ≡ b → one_if (d.action == 0) ≤ total unnumbered (deeds_by given all) → 0 < d.action
    at true q h = absurd (omega (arith, h, ap one_if q, none_unnumbered given gives))
    at false q h = grind (arith, q)

  deed_done : (d : Deed) → IsAmong d (deeds_by deed_at all) → WasDone (shared last).marks (done_of d)
  deed_done d is =
      let some : 0 < total (acted (test_of d)) (shared last).marks = omega (arith, among_low (under (test_of d)) d (deeds_by deed_at all) is, own_test d, deeds_up_to (test_of d)) in some

  set_done : (d : Deed) → IsAmong d (deeds_by set_at all) → WasDone (shared last).words (done_of d)
  set_done d is =
      let some : 0 < total (acted (test_of d)) (shared last).words = omega (arith, among_low (under (test_of d)) d (deeds_by set_at all) is, own_test d, sets_up_to (test_of d)) in some

  deeds_fall : NeverFall (deeds_of all)
  deeds_fall = λ first next a b before.
      rows (shared last).marks (shared last).order.chain (shared last).order.ordered (done_of first) (done_of next) (deed_done first a) (deed_done next b) (is_numbered deed_at deeds_given next b) before

  sets_fall : NeverFall (printed_sets all)
  sets_fall = λ first next a b before.
      words (actors last) (shared last).marks (shared last).words (shared last).order.floored (shared last).order.words_once (done_of first) (done_of next) (set_done first a) (set_done next b) (is_numbered set_at sets_given next b) before

  pub numbers_are : (phase : ℕ) (h : At → ℕ) → ((x : At) → (x.row == 0) ≡ false → h x ≡ 0) → total (λ c. h (at_put 0 c.version)) (each_of action_change (up_to_phase phase all)) ≡ total h (map at_mark (shared phase).marks)
  numbers_are phase h off =
      let g : At → ℕ → ℕ = λ x number. h x in
      let w = walked told (λ a b. a ≡ b) same_kept (λ ps. total (λ c. h (at_put 0 c.version)) (each_of action_change ps)) (numbers_sum (λ n. h (at_put 0 n))) (λ spell. total (acted g) (marks_of (doings_calls spell.doings))) (numbers_related told weighed h off) phase stack depths spells are.stints are.entered shaped (each_near spells near) in
      let m = marks_over (acted g) (actors phase) ∙ phase_over (λ calls. total (acted g) (marks_of calls)) phase spells in
      w ∙ (sym m ∙ ((shared phase).order.once (acted g) ∙ sym (total_map at_mark h (shared phase).marks)))

  pub order_kept : HaveOrder spells
  order_kept = record {
    numbers = λ phase. numbers_chained chain (up_to_phase phase all) (map at_mark (shared phase).marks) (marks (shared phase).marks (shared phase).order.chain) (numbers_are phase);
    deeds = deeds_fall;
    sets = sets_fall;
  }
