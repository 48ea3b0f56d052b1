-- Along each session the numbers of its actions rise: within a phase by its own calls, and from phase to phase.
use Rattle.std.proofs.Common.{ℕ, zero, suc, ◌≡◌, ◌+◌, ◌<◌, ◌≤◌, ◌==◌, Bool, true, false, cond, ◌&&◌, List, [], ◌∷◌, ◌++◌, length, Option, Some, None, IfSome, inl, inr, refl, ap, sym, ◌∙◌, subst, arith, append_assoc, append-nil, eq-eqb, lt-ltb, le-leb}
use Rattle.std.specs.Prelude.{nat_lt, nat_le}
use Rattle.std.proofs.lemmas.Bool.{cases_lt, eqb-true, and_from}
use Rattle.pfs_board.specs.declared.view.Label.{Label}
use Rattle.pfs_levels.specs.Calls.{Call, action_in}
use Rattle.pfs_levels.specs.CallOrder.{marks_of, all_marks, word_marks_of, all_word_marks, marked, published, top_in}
use Rattle.pfs_levels.specs.CallOrder.{AreRising as CallsRise}
use Rattle.pfs_levels.specs.JointCalls.{total, one_if, At}
use Rattle.pfs_model.specs.Actions.{AllAbove, AreRising, numbers_by}
use Rattle.pfs_model.specs.Chains.{Each}
use Rattle.pfs_model.specs.declared.changes.Change.{Change}
use Rattle.pfs_session.specs.SessionStates.{State}
use Rattle.pfs_session.specs.Turns.{state_after}
use Rattle.pfs_law_session.proofs.Stints.{done}
use Rattle.pfs_law_session.specs.Deeds.{action_of, part_calls}
use Rattle.pfs_law_session.specs.JournalLaws.{AreParts}
use Rattle.pfs_law_session.specs.Stints.{AreDone}
use Rattle.pfs_law_plain.proofs.ActionCounts.{AreLined, AllLined, more_made, none_made, one_of, all_lined}
use Rattle.pfs_law_plain.proofs.ConnectSlots.{own_doings}
use Rattle.pfs_law_plain.specs.RunRules.{entries_of}
use Rattle.pfs_law_plain.specs.SessionNotes.{ToldThroughLaw}
use Rattle.pfs_law_plain.specs.Spells.{Doing, Spell, AreSpells, around, entering, doing_calls, doings_calls, parts_in, stints_of}
use Rattle.pfs_law_joint.proofs.NamedVersions.{row_grows, rises_back}
use Rattle.pfs_law_joint.proofs.VersionChains.{mark_chain, not_there}
use Rattle.pfs_law_joint.proofs.MarkSums.{marked_same}
use Rattle.pfs_law_joint.specs.Phases.{HaveEnded, AreLater, LaterLaw}
use Rattle.pfs_law_shared.specs.Order.{AreSingle}
use Rattle.pfs_law_shared.specs.Shares.{actors_of, spells_at, spells_before, AreShared}
use Rattle.pfs_law_shared.proofs.ActionNotes.{act_by, acts_of}
use Rattle.pfs_law_shared.proofs.AgreedCalls.{calls_front, calls_back, each_spell}
use Rattle.pfs_law_shared.proofs.DoingMarks.{acted, own_number, doings_weigh, AreCounted, counted_marks, within_action, entering_action}
use Rattle.pfs_law_shared.proofs.InnerCalls.{AreWithin, turns_within, calls_within}
use Rattle.pfs_law_shared.proofs.OrderedActions.{marks_over, word_marks_over}
use Rattle.pfs_law_shared.proofs.PhaseWalks.{over, over_then, picked_over}
use Rattle.pfs_law_shared.proofs.PlainPhases.{Ascend, ascending, done_at}
use Rattle.pfs_law_shared.proofs.PrintedLabels.{session_numbers}
use Rattle.pfs_law_shared.proofs.WholeActors.{actors_whole}

-- numbers that rise from a bound on, and the last of them
abbrev next_top : ℕ → Option ℕ → ℕ
next_top m None = m
next_top m (Some number) = number

abbrev Rise : ℕ → List Doing → Type 0
Rise m [] = Unit {0}
Rise m (d ∷ ds) = IfSome (action_of d.part.deed) (λ number. m < number) × Rise (next_top m (action_of d.part.deed)) ds

abbrev last_top : ℕ → List Doing → ℕ
last_top m [] = m
last_top m (d ∷ ds) = last_top (next_top m (action_of d.part.deed)) ds

abbrev pub AllOver : ℕ → List Doing → Type 0
AllOver m [] = Unit {0}
AllOver m (d ∷ ds) = IfSome (action_of d.part.deed) (λ number. m < number) × AllOver m ds

abbrev pub AllUnder : ℕ → List Doing → Type 0
AllUnder m [] = Unit {0}
AllUnder m (d ∷ ds) = IfSome (action_of d.part.deed) (λ number. number ≤ m) × AllUnder m ds

rise_then : (m : ℕ) (xs ys : List Doing) → Rise m xs → Rise (last_top m xs) ys → Rise m (xs ++ ys)
rise_then m [] ys a b = b
rise_then m (d ∷ ds) ys a b = (a.0, rise_then (next_top m (action_of d.part.deed)) ds ys a.1 b)

rise_lower : (few many : ℕ) (ds : List Doing) → few ≤ many → Rise many ds → Rise few ds
rise_lower few many [] low r = tt
rise_lower few many (d ∷ ds) low r = by (action_of d.part.deed) r.0 r.1 (λ more. rise_lower few many ds low more) where
  by : (action : Option ℕ) → IfSome action (λ number. many < number) → Rise (next_top many action) ds → (Rise many ds → Rise few ds) → IfSome action (λ number. few < number) × Rise (next_top few action) ds
  by None up rest go = (tt, go rest)
  by (Some number) up rest go = (omega (arith, low, up), rest)

rise_over : (m few : ℕ) (ds : List Doing) → AllOver m ds → Rise few ds → Rise m ds
rise_over m few [] over_all r = tt
rise_over m few (d ∷ ds) over_all r = by (action_of d.part.deed) over_all.0 r.1 (λ more. rise_over m few ds over_all.1 more) where
  by : (action : Option ℕ) → IfSome action (λ number. m < number) → Rise (next_top few action) ds → (Rise few ds → Rise m ds) → IfSome action (λ number. m < number) × Rise (next_top m action) ds
  by None up rest go = (tt, go rest)
  by (Some number) up rest go = (up, rest)

last_under : (m k : ℕ) (ds : List Doing) → m ≤ k → AllUnder k ds → last_top m ds ≤ k
last_under m k [] low under = low
last_under m k (d ∷ ds) low under = last_under (next_top m (action_of d.part.deed)) k ds (by (action_of d.part.deed) under.0) under.1 where
  by : (action : Option ℕ) → IfSome action (λ number. number ≤ k) → next_top m action ≤ k
  by None u = low
  by (Some number) u = u

above_lower : (m n : ℕ) (cs : List Change) → m < n → AllAbove n cs → AllAbove m cs
above_lower m n [] low all = tt
above_lower m n (c ∷ cs) low all = (omega (arith, low, all.0), above_lower m n cs low all.1)

rise_acts : (m : ℕ) (ds : List Doing) → Rise m ds → AllAbove m (acts_of (parts_in ds)) × AreRising (acts_of (parts_in ds))
rise_acts m [] r = (tt, tt)
rise_acts m (d ∷ ds) r = by (action_of d.part.deed) r.0 (rise_acts (next_top m (action_of d.part.deed)) ds r.1) where
  by : (action : Option ℕ) → IfSome action (λ number. m < number) → AllAbove (next_top m action) (acts_of (parts_in ds)) × AreRising (acts_of (parts_in ds))
      → AllAbove m (act_by action ++ acts_of (parts_in ds)) × AreRising (act_by action ++ acts_of (parts_in ds))
  by None up rest = rest
  by (Some number) up rest = ((up, above_lower m number (acts_of (parts_in ds)) up rest.0), rest)

-- within a phase
entering_above : (past : List Call) (label : Label) (labels : List Label) (met : Option (List ℕ)) → CallsRise (entering label labels met ++ past) → top_in past 0 ≤ length labels
entering_above past label labels None rising = rising.0
entering_above past label labels (Some versions) rising = rising.1.0

around_rises : (past : List Call) (label : Label) (labels : List Label) (met : Option (List ℕ)) (action : Option ℕ) (calls : List Call) (ds : List Doing) → AreWithin calls → IfSome action (λ number. number ≡ length labels + 1)
    → CallsRise (around label labels met action calls ++ past) → Rise (top_in (around label labels met action calls ++ past) 0) ds
    → IfSome action (λ number. top_in past 0 < number) × Rise (next_top (top_in past 0) action) ds
around_rises past label labels met None calls ds w counts rising rest = (tt, rise_lower (top_in past 0) (top_in (calls ++ past) 0) ds (row_grows calls past 0 rising) rest)
around_rises past label labels met (Some number) calls ds w counts rising rest =
    let base : List Call = entering label labels met ++ past in
    let split : (calls ++ entering label labels met) ++ past ≡ calls ++ base = append_assoc calls (entering label labels met) past in
    let a : action_in ((calls ++ entering label labels met) ++ past) ≡ number = ap action_in split ∙ (within_action calls base w ∙ (entering_action past label labels met ∙ sym counts)) in
    let inner = rises_back calls base (subst CallsRise split rising.1) in
    (omega (arith, entering_above past label labels met inner, counts), subst (λ n. Rise n ds) a rest)

rises : (past : List Call) (s : State) (ds : List Doing) → AreParts s (parts_in ds) → AreCounted ds → CallsRise (doings_calls ds ++ past) → Rise (top_in past 0) ds
rises past s [] are counts rising = tt
rises past s (d ∷ ds) are counts rising =
    let moved : CallsRise (doings_calls ds ++ (doing_calls d ++ past)) = subst CallsRise (append_assoc (doings_calls ds) (doing_calls d) past) rising in
    let w = calls_within d.part.turns (turns_within s d.part.turns are.0.are_turns) in
    around_rises past d.label d.labels d.met (action_of d.part.deed) (part_calls d.part) ds w counts.0 (rises_back (doings_calls ds) (doing_calls d ++ past) moved)
    (rises (doing_calls d ++ past) (state_after s d.part.turns) ds are.1 counts.1 moved)

lined_counted : (session made : ℕ) (ds : List Doing) → AreLined session made ds → AreCounted ds
lined_counted session made [] l = tt
lined_counted session made (d ∷ ds) l = (by (action_of d.part.deed) l.0, lined_counted session (made + one_of (action_of d.part.deed)) ds l.1) where
  by : (action : Option ℕ) → IfSome action (λ number. (number ≡ length d.labels + 1) × (d.label ≡ record { session = session; line = made + 1 })) → IfSome action (λ number. number ≡ length d.labels + 1)
  by None e = tt
  by (Some number) e = e.0

pub all_counted : (made : ℕ → ℕ) (spells : List Spell) → AllLined made spells → Each (λ spell. AreCounted spell.doings) spells
all_counted made [] l = tt
all_counted made (spell ∷ spells) l = (lined_counted spell.session (made spell.session) spell.doings l.0, all_counted (more_made made spell) spells l.1)

-- numbers above a bound that no mark of them reaches
abbrev reached : ℕ → At → ℕ → ℕ
reached bound x number = one_if ((((x.row == 0) && nat_lt 0 number) && nat_le number bound) && nat_le 0 x.version)

none_over : (bound : ℕ) (ds : List Doing) → AreCounted ds → doings_weigh (reached bound) ds ≡ 0 → AllOver bound ds
none_over bound [] counts none = tt
none_over bound (d ∷ ds) counts none = (by (action_of d.part.deed) counts.0 (omega (arith, none)), none_over bound ds counts.1 (omega (arith, none))) where
  by : (action : Option ℕ) → IfSome action (λ number. number ≡ length d.labels + 1) → own_number (reached bound) action ≡ 0 → IfSome action (λ number. bound < number)
  by None c zero_is = tt
  by (Some number) c zero_is = elim (cases_lt bound number) [
    | inl high ↦ high
    | inr low ↦
        let one = ap one_if (and_from (nat_lt 0 number && nat_le number bound) (nat_le 0 number) (and_from (nat_lt 0 number) (nat_le number bound) (lt-ltb 0 number (omega (arith, c))) (le-leb number bound low)) (le-leb 0 number (omega arith))) in
        absurd (omega (arith, zero_is, one))
  ]

-- and up to one that all of them reach
abbrev made_by : ℕ → At → ℕ → ℕ
made_by version x number = one_if ((x.row == 0) && x.puts && (x.version == version))

all_under : (bound : ℕ) (ds : List Doing) → ((n : ℕ) → 0 < doings_weigh (made_by n) ds → n ≤ bound) → AllUnder bound ds
all_under bound [] low = tt
all_under bound (d ∷ ds) low = (by (action_of d.part.deed) (λ n some. low n (omega (arith, some))), all_under bound ds (λ n some. low n (omega (arith, some)))) where
  by : (action : Option ℕ) → ((n : ℕ) → 0 < own_number (made_by n) action → n ≤ bound) → IfSome action (λ number. number ≤ bound)
  by None up = tt
  by (Some number) up = up number (omega (arith, ap one_if (eq-eqb number number refl)))

-- phases
no_phase : (n : ℕ) → nat_lt n 0 ≡ false
no_phase n = grind arith

pub before_zero : (spells : List Spell) → spells_before 0 spells ≡ []
before_zero [] = refl
before_zero (spell ∷ spells) = ap (λ b. cond b (spell ∷ []) [] ++ spells_before 0 spells) (no_phase spell.phase) ∙ before_zero spells

next_test : (m n : ℕ) → one_if (m == n) + one_if (nat_lt m n) ≡ one_if (nat_lt m (suc n))
next_test m n = grind arith

split_cond : (a b c : Bool) (w : ℕ) → one_if a + one_if b ≡ one_if c → cond c w 0 ≡ cond a w 0 + cond b w 0
split_cond true true true w e = absurd (omega (arith, e))
split_cond true true false w e = absurd (omega (arith, e))
split_cond true false true w e = omega arith
split_cond true false false w e = absurd (omega (arith, e))
split_cond false true true w e = omega arith
split_cond false true false w e = absurd (omega (arith, e))
split_cond false false true w e = absurd (omega (arith, e))
split_cond false false false w e = omega arith

pub over_next : (weigh : List Call → ℕ) (phase : ℕ) (spells : List Spell)
    → over weigh (actors_of (spells_before (suc phase) spells)) ≡ over weigh (actors_of (spells_at phase spells)) + over weigh (actors_of (spells_before phase spells))
over_next weigh phase [] = refl
over_next weigh phase (spell ∷ spells) =
    let own : ℕ = weigh (doings_calls spell.doings) in
    let a = picked_over weigh (spell.phase == phase) spell (spells_at phase spells) in
    let b = picked_over weigh (nat_lt spell.phase phase) spell (spells_before phase spells) in
    let c = picked_over weigh (nat_lt spell.phase (suc phase)) spell (spells_before (suc phase) spells) in
    let d = split_cond (spell.phase == phase) (nat_lt spell.phase phase) (nat_lt spell.phase (suc phase)) own (next_test spell.phase phase) in
    omega (arith, a, b, c, d, over_next weigh phase spells)

none_ended : HaveEnded []
unfolding total all_marks all_word_marks
none_ended = record { marks = []; words = []; chain = tt; word_chain = tt; once = λ h. refl; words_once = λ h. refl }

pub have_ended : (flags : List ℕ) (spells : List Spell) → AreShared flags spells → (phase : ℕ) → HaveEnded (actors_of (spells_before phase spells))
have_ended flags spells shared zero = subst (λ z. HaveEnded (actors_of z)) (sym (before_zero spells)) none_ended
have_ended flags spells shared (suc phase) =
    let now : List (List Call) = actors_of (spells_at phase spells) in
    let before : List (List Call) = actors_of (spells_before phase spells) in
    record {
      marks = (shared phase).marks;
      words = (shared phase).words;
      chain = (shared phase).order.chain;
      word_chain = (shared phase).order.word_chain;
      once = λ h. marks_over h (actors_of (spells_before (suc phase) spells))
          ∙ (over_next (λ calls. total h (marks_of calls)) phase spells ∙ (sym (over_then (λ calls. total h (marks_of calls)) now before) ∙ (sym (marks_over h (now ++ before)) ∙ (shared phase).order.once h)));
      words_once = λ h. word_marks_over h (actors_of (spells_before (suc phase) spells))
          ∙ (over_next (λ calls. total h (word_marks_of calls)) phase spells ∙ (sym (over_then (λ calls. total h (word_marks_of calls)) now before) ∙ (sym (word_marks_over h (now ++ before)) ∙ (shared phase).order.words_once h)));
    }

-- a spell is one of the actors of its phase, and of those before each later one
pub at_own : (all spells : List Spell) → ((weigh : List Call → ℕ) (phase : ℕ) → over weigh (actors_of (spells_at phase spells)) ≤ over weigh (actors_of (spells_at phase all)))
    → Each (λ spell. (weigh : List Call → ℕ) → weigh (doings_calls spell.doings) ≤ over weigh (actors_of (spells_at spell.phase all))) spells
at_own all [] low = tt
at_own all (spell ∷ spells) low = (
  λ weigh. omega (arith, low weigh spell.phase, picked_over weigh (spell.phase == spell.phase) spell (spells_at spell.phase spells), ap (λ b. cond b (weigh (doings_calls spell.doings)) 0) (eq-eqb spell.phase spell.phase refl)),
  at_own all spells (λ weigh phase. omega (arith, low weigh phase, picked_over weigh (spell.phase == phase) spell (spells_at phase spells))),
)

pub before_own : (all spells : List Spell) → ((weigh : List Call → ℕ) (phase : ℕ) → over weigh (actors_of (spells_before phase spells)) ≤ over weigh (actors_of (spells_before phase all)))
    → Each (λ spell. (weigh : List Call → ℕ) (phase : ℕ) → spell.phase < phase → weigh (doings_calls spell.doings) ≤ over weigh (actors_of (spells_before phase all))) spells
before_own all [] low = tt
before_own all (spell ∷ spells) low = (
  λ weigh phase less. omega (arith, low weigh phase, picked_over weigh (nat_lt spell.phase phase) spell (spells_before phase spells), ap (λ b. cond b (weigh (doings_calls spell.doings)) 0) (lt-ltb spell.phase phase less)),
  before_own all spells (λ weigh phase. omega (arith, low weigh phase, picked_over weigh (nat_lt spell.phase phase) spell (spells_before phase spells))),
)

both_facts : (P Q R : Spell → Type 0) → ((x : Spell) → P x → Q x → R x) → (xs : List Spell) → Each P xs → Each Q xs → Each R xs
both_facts P Q R so [] p q = tt
both_facts P Q R so (x ∷ xs) p q = (so x p.0 q.0, both_facts P Q R so xs p.1 q.1)

pub done_of : (spells : List Spell) → AreDone (stints_of spells) → Each (λ spell. (s : State) × AreParts s (parts_in spell.doings)) spells
done_of [] d = tt
done_of (spell ∷ spells) d = ((d.0.from, d.0.are_parts), done_of spells d.1)

raise : (few many : ℕ) (spells : List Spell) → few ≤ many → Each (λ spell. many ≤ spell.phase) spells → Each (λ spell. few ≤ spell.phase) spells
raise few many [] low each = tt
raise few many (spell ∷ spells) low each = (omega (arith, low, each.0), raise few many spells low each.1)

later_phases : (q : ℕ) (spells : List Spell) → Ascend q spells → Each (λ spell. q ≤ spell.phase) spells
later_phases q [] up = tt
later_phases q (spell ∷ spells) up = (up.0, raise q spell.phase spells up.0 (later_phases spell.phase spells up.1))

above : (q p : ℕ) → q ≤ p → (p ≡ q → ⊥) → q < p
above q p up not = elim (cases_lt q p) [
  | inl less ↦ less
  | inr more ↦ absurd (not (omega (arith, up, more)))
]

module _ (later : LaterLaw) (flags : List ℕ) (all : List Spell) (shared : AreShared flags all) (is_done : AreDone (stints_of all)) where
  abbrev pub bound : ℕ → ℕ
  bound phase = marked (all_marks (actors_of (spells_before phase all))) 0

  -- what is said of each spell: its numbers rise, are above those of the phases before, and not above those before a later one
  pub record IsRisen (spell : Spell) : Type 0 where
    pub own : Rise 0 spell.doings
    pub over_all : AllOver (bound spell.phase) spell.doings
    pub under : (phase : ℕ) → spell.phase < phase → AllUnder (bound phase) spell.doings

  over_bound : (spell : Spell) → (s : State) × AreParts s (parts_in spell.doings) → AreCounted spell.doings → ((weigh : List Call → ℕ) → weigh (doings_calls spell.doings) ≤ over weigh (actors_of (spells_at spell.phase all)))
      → AllOver (bound spell.phase) spell.doings
  over_bound spell parts counts low =
      let n : ℕ = bound spell.phase in
      let now : List (List Call) = actors_of (spells_at spell.phase all) in
      let g : At → ℕ → ℕ = reached n in
      let is : AreLater (actors_of (spells_before spell.phase all)) now = later flags (actors_of (spells_before spell.phase all)) now (shared spell.phase) (have_ended flags all shared spell.phase) (actors_whole (spells_at spell.phase all) (done_at spell.phase all is_done)) in
      let none : total (acted g) (all_marks now) ≡ 0 = is.rows 0 in
      none_over n spell.doings counts (omega (arith, low (λ calls. total (acted g) (marks_of calls)), marks_over (acted g) now, none, counted_marks g parts.0 spell.doings parts.1 counts))

  under_bound : (spell : Spell) → (s : State) × AreParts s (parts_in spell.doings) → AreCounted spell.doings
      → ((weigh : List Call → ℕ) (phase : ℕ) → spell.phase < phase → weigh (doings_calls spell.doings) ≤ over weigh (actors_of (spells_before phase all)))
      → (phase : ℕ) → spell.phase < phase → AllUnder (bound phase) spell.doings
  under_bound spell parts counts low phase less = all_under (bound phase) spell.doings reach where
    reach : (n : ℕ) → 0 < doings_weigh (made_by n) spell.doings → n ≤ marked (all_marks (actors_of (spells_before phase all))) 0
    reach n some =
        let g : At → ℕ → ℕ = made_by n in
        let before : List (List Call) = actors_of (spells_before phase all) in
        let e : HaveEnded before = have_ended flags all shared phase in
        let marks_some : 0 < total (acted g) (all_marks before) = omega (arith, some, low (λ calls. total (acted g) (marks_of calls)) phase less, marks_over (acted g) before, counted_marks g parts.0 spell.doings parts.1 counts) in
        let there : 0 < published e.marks 0 n = subst (λ z. 0 < z) (e.once (acted g)) marks_some in
        elim (cases_lt (marked e.marks 0) n) [
          | inl high ↦ absurd (omega (arith, there, mark_chain e.marks 0 n e.chain, not_there n (marked e.marks 0) high))
          | inr few ↦ omega (arith, few, marked_same (all_marks before) e.marks 0 e.once)
        ]

  joined : (session m q : ℕ) (spells : List Spell) → Ascend q spells → AreSingle spells → Each IsRisen spells → Each (λ other. other.session ≡ session → m ≤ bound other.phase) spells → Rise m (own_doings session spells)
  joined session m q [] up single risen low = tt
  joined session m q (spell ∷ spells) up single risen low = at (spell.session == session) refl (joined session m spell.phase spells up.1 single.1 risen.1 low.1) (λ more. joined session (last_top m spell.doings) spell.phase spells up.1 single.1 risen.1 more) where
    own : (spell.session ≡ session) → Rise m spell.doings
    own e = rise_lower m (bound spell.phase) spell.doings (low.0 e) (rise_over (bound spell.phase) 0 spell.doings risen.0.over_all risen.0.own)

    behind : (spell.session ≡ session) → Each (λ other. other.session ≡ session → last_top m spell.doings ≤ bound other.phase) spells
    behind e =
        let apart : Each (λ other. other.session ≡ session → spell.phase < other.phase) spells =
        both_facts (λ other. spell.phase ≤ other.phase) (λ other. other.session ≡ spell.session → other.phase ≡ spell.phase → ⊥) (λ other. other.session ≡ session → spell.phase < other.phase)
        (λ other up not s. above spell.phase other.phase up (λ same. not (s ∙ sym e) same)) spells (later_phases spell.phase spells up.1) single.0 in
        both_facts (λ other. other.session ≡ session → m ≤ bound other.phase) (λ other. other.session ≡ session → spell.phase < other.phase) (λ other. other.session ≡ session → last_top m spell.doings ≤ bound other.phase)
        (λ other few less s. last_under m (bound other.phase) spell.doings (few s) (risen.0.under other.phase (less s))) spells low.1 apart

    at : (b : Bool) → (spell.session == session) ≡ b → Rise m (own_doings session spells) → (Each (λ other. other.session ≡ session → last_top m spell.doings ≤ bound other.phase) spells → Rise (last_top m spell.doings) (own_doings session spells))
        → Rise m (cond b spell.doings [] ++ own_doings session spells)
    at true e rest go = let s : spell.session ≡ session = eqb-true spell.session session e in rise_then m spell.doings (own_doings session spells) (own s) (go (behind s))
    at false e rest go = rest

  pub risen_all : (spells : List Spell) → Each (λ spell. (s : State) × AreParts s (parts_in spell.doings)) spells → Each (λ spell. AreCounted spell.doings) spells → Each (λ spell. CallsRise (doings_calls spell.doings)) spells
      → Each (λ spell. (weigh : List Call → ℕ) → weigh (doings_calls spell.doings) ≤ over weigh (actors_of (spells_at spell.phase all))) spells
      → Each (λ spell. (weigh : List Call → ℕ) (phase : ℕ) → spell.phase < phase → weigh (doings_calls spell.doings) ≤ over weigh (actors_of (spells_before phase all))) spells
      → Each IsRisen spells
  risen_all [] parts counts rising at before = tt
  risen_all (spell ∷ spells) parts counts rising at before = (
    record {
      own = rises [] parts.0.0 spell.doings parts.0.1 counts.0 (subst CallsRise (sym (append-nil (doings_calls spell.doings))) rising.0);
      over_all = over_bound spell parts.0 counts.0 at.0;
      under = under_bound spell parts.0 counts.0 before.0;
    },
    risen_all spells parts.1 counts.1 rising.1 at.1 before.1,
  )

  no_bound : (session : ℕ) (spells : List Spell) → Each (λ other. other.session ≡ session → 0 ≤ bound other.phase) spells
  no_bound session [] = tt
  no_bound session (spell ∷ spells) = (λ e. omega arith, no_bound session spells)

pub numbers_rise : LaterLaw → ToldThroughLaw → (flags : List ℕ) (stack : ℕ) (depths : ℕ → ℕ) (spells : List Spell) (last : ℕ) → AreSpells stack depths spells → AreShared flags spells → AreSingle spells
    → Each (λ spell. spell.phase ≤ last) spells → (session : ℕ) → AreRising (numbers_by session (entries_of spells))
numbers_rise later through flags stack depths spells last are shared single low session =
    let d : AreDone (stints_of spells) = done stack depths (stints_of spells) are.stints in
    let now : List (List Call) = actors_of (spells_at last spells) in
    let before : List (List Call) = actors_of (spells_before last spells) in
    let rising = each_spell CallsRise last spells low (calls_front CallsRise now before (shared last).order.rising) (calls_back CallsRise now before (shared last).order.rising) in
    let counts = all_counted none_made spells (all_lined stack depths spells are.stints are.entered) in
    let risen = risen_all later flags spells shared d spells (done_of spells d) counts rising (at_own spells spells (λ weigh phase. omega arith)) (before_own spells spells (λ weigh phase. omega arith)) in
    let r = joined later flags spells shared d session 0 0 spells (ascending stack depths [] 0 spells are.stints) single risen (no_bound later flags spells shared d session spells) in
    subst AreRising (sym (session_numbers through stack depths session spells are.stints d)) (rise_acts 0 (own_doings session spells) r).1
