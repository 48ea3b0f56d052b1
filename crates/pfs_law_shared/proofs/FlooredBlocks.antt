-- What a session does in a phase is printed floored, line by line, each with what was done behind the lines before it.
use Rattle.std.proofs.Common.{ℕ, ◌≡◌, ◌+◌, ◌<◌, ◌≤◌, ◌==◌, cond, List, [], ◌∷◌, ◌++◌, length, Option, Some, None, IfSome, inl, inr, refl, ap, sym, ◌∙◌, subst, arith, append_assoc, append-nil, ne_eqb}
use Rattle.std.specs.Prelude.{◌⊎◌}
use Rattle.pfs_board.specs.declared.view.Label.{Label}
use Rattle.pfs_event.specs.declared.entry.Entry.{Entry}
use Rattle.pfs_event.specs.declared.entry.Entry.TheVariants as says
use Rattle.pfs_levels.specs.Calls.{Call, Adds, Rings, Reads, Loads, Draws, Takes, Puts, Frees, Sets, Enters, Leaves, Meets, action_in, after_in}
use Rattle.pfs_levels.specs.CallOrder.{all_marks, marked, top_in}
use Rattle.pfs_levels.specs.CallOrder.{AreRising as CallsRise}
use Rattle.pfs_model.specs.Chains.{Each, change_at, action_change, each_of}
use Rattle.pfs_model.specs.Contexts.{Context, noted, after, after_entries, subject_of, turned}
use Rattle.pfs_model.specs.EntryPlaces.{Placed, placed_part, placed_lines, after_lines}
use Rattle.pfs_model.specs.declared.changes.Change.{Change}
use Rattle.pfs_model.specs.declared.lines.Line.{Line}
use Rattle.pfs_model.specs.declared.lines.Subject.{Subject}
use Rattle.pfs_session.specs.SessionStates.{State}
use Rattle.pfs_session.specs.Turns.{state_after}
use Rattle.pfs_law_session.specs.Deeds.{action_of, line_of, part_calls, part_entries}
use Rattle.pfs_law_session.specs.JournalLaws.{AreParts, lines_of, entries_of}
use Rattle.pfs_law_plain.specs.Notes.{Note, all_told, notes_of}
use Rattle.pfs_law_plain.specs.SessionNotes.{Sits, ToldLaw, turns_notes}
use Rattle.pfs_law_plain.specs.Spells.{Doing, around, entering, doing_calls, doings_calls, parts_in}
use Rattle.pfs_law_plain.specs.Weights.{WeighedLaw}
use Rattle.pfs_law_joint.specs.Causes.{CausesLaw}
use Rattle.pfs_law_joint.specs.Floors.{FloorsLaw}
use Rattle.pfs_law_joint.specs.Phases.{HaveEnded, WereDone, HadLaw, WordHadLaw}
use Rattle.pfs_law_joint.proofs.NamedVersions.{row_grows, rises_back}
use Rattle.pfs_law_shared.specs.Order.{IsNear}
use Rattle.pfs_law_shared.proofs.ActionNotes.{act_by}
use Rattle.pfs_law_shared.proofs.DoingMarks.{AreCounted, within_action, entering_action}
use Rattle.pfs_law_shared.proofs.DrawnPuts.{part_drawn}
use Rattle.pfs_law_shared.proofs.FittingNotes.{Fits, IsUnder, Scene, calls_fit, under_entering, under_leaves, within_after}
use Rattle.pfs_law_shared.proofs.FlooredLines.{AreBound, AreWalked, passed, walked_then, part_walked, done_kept}
use Rattle.pfs_law_shared.proofs.InnerCalls.{AreWithin, turns_within, calls_within}
use Rattle.pfs_law_shared.proofs.NamedNotes.{onto_rows, onto_words, unacted, turns_unacted, AllFit, fit_acted, fit_unacted, rows_unacted, words_unacted}
use Rattle.pfs_law_shared.proofs.PartDeeds.{numbers}
use Rattle.pfs_law_shared.proofs.PlainNear.{near_back, near_front}
use Rattle.pfs_law_shared.proofs.RisingNumbers.{AllUnder}

-- what an actor knows as ended is named of row 0
after_top : (calls : List Call) → CallsRise calls → after_in calls ≤ top_in calls 0
after_top [] rise = omega arith
after_top (Enters label labels ∷ calls) rise = omega arith
after_top (Leaves ∷ calls) rise = omega arith
after_top (Adds row amount answer ∷ calls) rise = omega (arith, after_top calls rise.1, row_grows (Adds row amount answer ∷ []) calls 0 rise)
after_top (Rings row content answer ∷ calls) rise = omega (arith, after_top calls rise.1, row_grows (Rings row content answer ∷ []) calls 0 rise)
after_top (Reads row seen ∷ calls) rise = omega (arith, after_top calls rise.1, row_grows (Reads row seen ∷ []) calls 0 rise)
after_top (Loads at version flags ∷ calls) rise = after_top calls rise.1
after_top (Draws kind ticket ∷ calls) rise = after_top calls rise.1
after_top (Meets versions ∷ calls) rise = after_top calls rise.1
after_top (Takes row version found ∷ calls) rise = omega (arith, after_top calls rise.1, row_grows (Takes row version found ∷ []) calls 0 rise)
after_top (Puts row content version ∷ calls) rise = omega (arith, after_top calls rise.1, row_grows (Puts row content version ∷ []) calls 0 rise)
after_top (Frees row version ∷ calls) rise = omega (arith, after_top calls rise.1, row_grows (Frees row version ∷ []) calls 0 rise)
after_top (Sets at flags version ∷ calls) rise = after_top calls rise.1

-- the action in hand behind a line is that which it printed
abbrev version_in : List Change → ℕ
version_in [] = 0
version_in (c ∷ cs) = c.version

abbrev tail_of : List Change → List Change
tail_of [] = []
tail_of (c ∷ cs) = cs

first_is : (a b : Change) (xs ys : List Change) → a ∷ xs ≡ b ∷ ys → a.version ≡ b.version
first_is a b xs ys e = ap version_in e

rest_is : (a b : Change) (xs ys : List Change) → a ∷ xs ≡ b ∷ ys → xs ≡ ys
rest_is a b xs ys e = ap tail_of e

not_none : (a : Change) (xs : List Change) → a ∷ xs ≡ [] → ⊥
not_none a xs e = absurd (omega (arith, ap length e))

module _ (phase session : ℕ) (line : Line) where
  none_begun : (context : Context) (es : List Entry) → each_of action_change (placed_part phase session line context es) ≡ [] → (after_entries (subject_of line) context es).action ≡ context.action
  none_begun context [] e = refl
  none_begun context (says.Connect action thread account user host ∷ es) e = absurd (not_none (change_at 0 action) _ e)
  none_begun context (says.Act action ∷ es) e = absurd (not_none (change_at 0 action) _ e)
  none_begun context (says.Start event verdict consumers thread class table ∷ es) e = none_begun (noted (subject_of line) context (says.Start event verdict consumers thread class table)) es e
  none_begun context (says.End event last consumers thread ∷ es) e = none_begun (noted (subject_of line) context (says.End event last consumers thread)) es e
  none_begun context (says.Held row first second ∷ es) e = none_begun (noted (subject_of line) context (says.Held row first second)) es e
  none_begun context (says.Add row version ∷ es) e = none_begun (noted (subject_of line) context (says.Add row version)) es e
  none_begun context (says.Settle ∷ es) e = none_begun (noted (subject_of line) context says.Settle) es e
  none_begun context (says.Take row version ∷ es) e = none_begun (noted (subject_of line) context (says.Take row version)) es e
  none_begun context (_ ∷ es) e = none_begun context es e

  one_begun : (context : Context) (es : List Entry) (number : ℕ) → each_of action_change (placed_part phase session line context es) ≡ change_at 0 number ∷ [] → (after_entries (subject_of line) context es).action ≡ number
  one_begun context [] number e = absurd (not_none (change_at 0 number) [] (sym e))
  one_begun context (says.Connect action thread account user host ∷ es) number e =
      let next : Context = noted (subject_of line) context (says.Connect action thread account user host) in
      none_begun next es (rest_is (change_at 0 action) (change_at 0 number) (each_of action_change (placed_part phase session line next es)) [] e) ∙ first_is (change_at 0 action) (change_at 0 number) (each_of action_change (placed_part phase session line next es)) [] e
  one_begun context (says.Act action ∷ es) number e =
      let next : Context = noted (subject_of line) context (says.Act action) in
      none_begun next es (rest_is (change_at 0 action) (change_at 0 number) (each_of action_change (placed_part phase session line next es)) [] e) ∙ first_is (change_at 0 action) (change_at 0 number) (each_of action_change (placed_part phase session line next es)) [] e
  one_begun context (says.Start event verdict consumers thread class table ∷ es) number e = one_begun (noted (subject_of line) context (says.Start event verdict consumers thread class table)) es number e
  one_begun context (says.End event last consumers thread ∷ es) number e = one_begun (noted (subject_of line) context (says.End event last consumers thread)) es number e
  one_begun context (says.Held row first second ∷ es) number e = one_begun (noted (subject_of line) context (says.Held row first second)) es number e
  one_begun context (says.Add row version ∷ es) number e = one_begun (noted (subject_of line) context (says.Add row version)) es number e
  one_begun context (says.Settle ∷ es) number e = one_begun (noted (subject_of line) context says.Settle) es number e
  one_begun context (says.Take row version ∷ es) number e = one_begun (noted (subject_of line) context (says.Take row version)) es number e
  one_begun context (_ ∷ es) number e = one_begun context es number e

entries_done : (subject : Option Subject) (context : Context) (es : List Entry) → (after_entries subject context es).done ≡ context.done
entries_done subject context [] = refl
entries_done subject context (e ∷ es) = entries_done subject (noted subject context e) es ∙ done_kept subject context e

-- what had ended behind a line
abbrev next_done : Option ℕ → ℕ → ℕ
next_done None done = done
next_done (Some number) done = number

done_behind : (phase session : ℕ) (line : Line) (context : Context) (es : List Entry) (action : Option ℕ) → IfSome action (λ number. 0 < number) → each_of action_change (placed_part phase session line (turned context) es) ≡ act_by action
    → (turned (after context line es)).done ≡ next_done action (turned context).done
done_behind phase session line context es None up e =
    let a = none_begun phase session line (turned context) es e in
    ap (λ n. cond (n == 0) (after context line es).done (after context line es).action) a ∙ entries_done (subject_of line) (turned context) es
done_behind phase session line context es (Some number) up e =
    let a = one_begun phase session line (turned context) es number e in
    ap (λ n. cond (n == 0) (after context line es).done n) a ∙ ap (λ b. cond b (after context line es).done number) (ne_eqb number 0 (λ z. omega (arith, up, z)))

-- behind what an actor did in a phase
pub record IsBehind (bound : ℕ → ℕ) (phase : ℕ) (past : List Call) (done : ℕ) : Type 0 where
  pub known : (done ≤ after_in past) ⊎ (done ≤ bound phase)
  pub later : (h : ℕ) → phase < h → done ≤ bound h

around_behind : (bound : ℕ → ℕ) (phase : ℕ) (label : Label) (labels : List Label) (met : Option (List ℕ)) (action : Option ℕ) (calls past : List Call) (done : ℕ) → AreWithin calls → IfSome action (λ number. number ≡ length labels + 1)
    → ((h : ℕ) → phase < h → IfSome action (λ number. number ≤ bound h)) → IsBehind bound phase past done → IsBehind bound phase (around label labels met action calls ++ past) (next_done action done)
around_behind bound phase label labels met None calls past done w counts low b = record { known = subst (λ n. (done ≤ n) ⊎ (done ≤ bound phase)) (sym (within_after calls past w)) b.known; later = b.later }
around_behind bound phase label labels met (Some number) calls past done w counts low b =
    let e : action_in ((calls ++ entering label labels met) ++ past) ≡ length labels + 1 =
    ap action_in (append_assoc calls (entering label labels met) past) ∙ (within_action calls (entering label labels met ++ past) w ∙ entering_action past label labels met) in
    record { known = inl (omega (arith, e, counts)); later = low }

module _ (floors : FloorsLaw) (causes : CausesLaw) (rows_had : HadLaw) (words_had : WordHadLaw) (told : ToldLaw) (weighed : WeighedLaw) (flags : List ℕ) (all : List Placed) (phase session : ℕ) (bound : ℕ → ℕ)
    (before front behind : List (List Call)) (ended : HaveEnded before) (bound_is : bound phase ≡ marked (all_marks before) 0) (own : List Call)
    (scene : (done : ℕ) → ((h : ℕ) → phase < h → done ≤ bound h) → Scene flags all phase session done before front behind own) (rising : CallsRise own) (near : Each IsNear own) where
  -- the calls of a line
  around_fit : (label : Label) (labels : List Label) (met : Option (List ℕ)) (action : Option ℕ) (calls rest past : List Call) (done : ℕ) → own ≡ rest ++ (around label labels met action calls ++ past) → AreWithin calls
      → IfSome action (λ number. number ≡ length labels + 1) → IsBehind bound phase past done → (rows words : List Change) → IsUnder rows words past
      → AllFit (Fits all phase session done) rows words (all_told calls) × IsUnder (onto_rows (all_told calls) rows) (onto_words (all_told calls) words) (around label labels met action calls ++ past)
  around_fit label labels met None calls rest past done e w counts b rows words u =
      let S : List Call → Type 0 = Scene flags all phase session done before front behind in
      calls_fit floors causes rows_had words_had flags all phase session done before front behind ended rest calls past (subst S e (scene done b.later)) w
      (subst (λ n. (done ≤ after_in past) ⊎ (done ≤ n)) bound_is b.known) (near_front calls past (near_back rest (calls ++ past) (subst (Each IsNear) e near))) (rises_back rest (calls ++ past) (subst CallsRise e rising)) rows words u
  around_fit label labels met (Some number) calls rest past done e w counts b rows words u =
      let S : List Call → Type 0 = Scene flags all phase session done before front behind in
      let base : List Call = entering label labels met ++ past in
      let inner : (calls ++ entering label labels met) ++ past ≡ calls ++ base = append_assoc calls (entering label labels met) past in
      let split : own ≡ (rest ++ Leaves ∷ []) ++ (calls ++ base) = e ∙ (ap (λ z. rest ++ (Leaves ∷ z)) inner ∙ sym (append_assoc rest (Leaves ∷ []) (calls ++ base))) in
      let rise : CallsRise (Leaves ∷ (calls ++ base)) = rises_back rest (Leaves ∷ (calls ++ base)) (subst CallsRise (append_assoc rest (Leaves ∷ []) (calls ++ base)) (subst CallsRise split rising)) in
      let entered : CallsRise base = rises_back calls base rise.1 in
      let were : WereDone before base done = known met b.known entered in
      let r = calls_fit floors causes rows_had words_had flags all phase session done before front behind ended (rest ++ Leaves ∷ []) calls base (subst S split (scene done b.later)) w were
      (near_front calls base (near_back (rest ++ Leaves ∷ []) (calls ++ base) (subst (Each IsNear) split near))) rise.1 rows words (under_entering rows words label labels met past entered u) in
      (r.0, subst (λ z. IsUnder (onto_rows (all_told calls) rows) (onto_words (all_told calls) words) (Leaves ∷ z)) (sym inner) (under_leaves (onto_rows (all_told calls) rows) (onto_words (all_told calls) words) (calls ++ base) rise r.1)) where
        known : (met : Option (List ℕ)) → (done ≤ after_in past) ⊎ (done ≤ bound phase) → CallsRise (entering label labels met ++ past) → WereDone before (entering label labels met ++ past) done
        known None (inl few) entered = inl (omega (arith, few, entered.0, after_top past entered.1))
        known (Some versions) (inl few) entered = inl (omega (arith, few, entered.1.0, after_top past entered.1.1))
        known met (inr old) entered = inr (omega (arith, old, bound_is))

  pub record IsBlock (context : Context) (ds : List Doing) (earlier : List Placed) : Type 0 where
    pub rows : List Change
    pub words : List Change
    pub walked : AreWalked all phase session earlier (placed_lines phase session context (lines_of (parts_in ds)) (entries_of (parts_in ds))) rows words
    pub later : (h : ℕ) → phase < h → (turned (after_lines context (lines_of (parts_in ds)) (entries_of (parts_in ds)))).done ≤ bound h

  over_zero : (action : Option ℕ) (n : ℕ) → IfSome action (λ number. number ≡ n + 1) → IfSome action (λ number. 0 < number)
  over_zero None n e = tt
  over_zero (Some number) n e = omega (arith, e)

  doings_walked : (context : Context) (s : State) (ds : List Doing) (past : List Call) (earlier : List Placed) (rows words : List Change) → own ≡ doings_calls ds ++ past → Sits context s → AreParts s (parts_in ds) → AreCounted ds
      → ((h : ℕ) → phase < h → AllUnder (bound h) ds) → IsBehind bound phase past (turned context).done → IsUnder rows words past → AreBound all phase session earlier rows words → IsBlock context ds earlier
  doings_walked context s [] past earlier rows words e sits are counts low b u o = record { rows = rows; words = words; walked = record { floored = tt; caused = tt; had = tt; bound = o }; later = b.later }
  doings_walked context s (d ∷ ds) past earlier rows words e sits are counts low b u o =
      let line : Line = line_of d.part.deed in
      let entries : List Entry = part_entries d.part in
      let action : Option ℕ = action_of d.part.deed in
      let calls : List Call = part_calls d.part in
      let done : ℕ = (turned context).done in
      let F : List Change → List Change → Note → Type 0 = Fits all phase session done in
      let here : List Placed = placed_part phase session line (turned context) entries in
      let next : Context = after context line entries in
      let split : own ≡ doings_calls ds ++ (doing_calls d ++ past) = e ∙ append_assoc (doings_calls ds) (doing_calls d) past in
      let w : AreWithin calls = calls_within d.part.turns (turns_within s d.part.turns are.0.are_turns) in
      let f = around_fit d.label d.labels d.met action calls (doings_calls ds) past done split w counts.0 b rows words u in
      let t = (told context s (d.part ∷ []) sits (are.0, tt)) in
      let same : notes_of here ≡ turns_notes d.part.turns = sym (ap notes_of (append-nil here)) ∙ (t.same phase session ∙ append-nil (turns_notes d.part.turns)) in
      let quiet : unacted (notes_of here) ≡ unacted (all_told calls) = ap unacted same ∙ turns_unacted d.part.turns in
      let fit : AllFit F rows words (notes_of here) = fit_acted F (λ rows words number. tt) rows words (notes_of here) (subst (AllFit F rows words) (sym quiet) (fit_unacted F rows words (all_told calls) f.0)) in
      let mine : List Change = onto_rows (notes_of here) rows in
      let set : List Change = onto_words (notes_of here) words in
      let rows_same : mine ≡ onto_rows (all_told calls) rows = sym (rows_unacted (notes_of here) rows) ∙ (ap (λ z. onto_rows z rows) quiet ∙ rows_unacted (all_told calls) rows) in
      let words_same : set ≡ onto_words (all_told calls) words = sym (words_unacted (notes_of here) words) ∙ (ap (λ z. onto_words z words) quiet ∙ words_unacted (all_told calls) words) in
      let under : IsUnder mine set (doing_calls d ++ past) =
      subst (λ z. IsUnder z set (doing_calls d ++ past)) (sym rows_same) (subst (λ z. IsUnder (onto_rows (all_told calls) rows) z (doing_calls d ++ past)) (sym words_same) f.1) in
      let line_walked = part_walked all phase session line (turned context) entries earlier rows words (part_drawn s d.part are.0).ahead fit o in
      let done_is : (turned next).done ≡ next_done action done =
      done_behind phase session line context entries action (over_zero action (length d.labels) counts.0) (numbers told weighed phase session context s d.part sits are.0) in
      let after_line = around_behind bound phase d.label d.labels d.met action calls past done w counts.0 (λ h up. (low h up).0) b in
      let rest = doings_walked next (state_after s d.part.turns) ds (doing_calls d ++ past) (passed earlier here) mine set split t.sits are.1 counts.1 (λ h up. (low h up).1)
      (subst (IsBehind bound phase (doing_calls d ++ past)) (sym done_is) after_line) under line_walked.bound in
      record {
        rows = rest.rows;
        words = rest.words;
        walked = walked_then all phase session earlier here (placed_lines phase session next (lines_of (parts_in ds)) (entries_of (parts_in ds))) mine set rest.rows rest.words line_walked rest.walked;
        later = rest.later;
      }

  pub block_walked : (context : Context) (s : State) (ds : List Doing) (earlier : List Placed) → own ≡ doings_calls ds → Sits context s → AreParts s (parts_in ds) → AreCounted ds → ((h : ℕ) → phase < h → AllUnder (bound h) ds)
      → ((h : ℕ) → phase ≤ h → (turned context).done ≤ bound h) → AreBound all phase session earlier [] [] → IsBlock context ds earlier
  block_walked context s ds earlier e sits are counts low old o =
      doings_walked context s ds [] earlier [] [] (e ∙ sym (append-nil (doings_calls ds))) sits are counts low
      (record { known = inr (old phase (omega arith)); later = λ h up. old h (omega (arith, up)) }) ((λ row. omega arith), (λ word up. omega arith)) o
