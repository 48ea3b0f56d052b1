-- Where a session holds nothing, a line's turns tell what its calls tell, with those that begin and end its action;
-- nothing is settled or held.
use Rattle.std.proofs.Common.{ℕ, ◌≡◌, ◌+◌, Bool, true, false, List, [], ◌∷◌, ◌++◌, length, Option, Some, None, cond, refl, ap, sym, ◌∙◌, subst}
use Rattle.std.proofs.lemmas.List.{append-nil}
use Rattle.pfs_board.specs.declared.view.Label.{Label}
use Rattle.pfs_event.specs.declared.open.Open.{Open}
use Rattle.pfs_levels.specs.Calls.{Call, Leaves}
use Rattle.pfs_model.specs.Shapes.{is_stage}
use Rattle.pfs_admin.specs.declared.changes.SetupStatement.TheVariants.{Show}
use Rattle.pfs_rows.specs.declared.table.Reading.{Reading}
use Rattle.pfs_session.specs.Ends.{no_numbers}
use Rattle.pfs_session.specs.declared.remarks.Remark.TheVariants.{Rows}
use Rattle.pfs_session.specs.SessionStates.{State, nothing_held}
use Rattle.pfs_session.specs.Turns.{Step, StartsEvent, EndsEvent, SettlesHeld, Connects, Quits, Truncates, Changes, Does, Turn, AreTurns, state_after, steps_of, turns_calls, turns_entries, stage_ends}
use Rattle.pfs_law_session.specs.Deeds.{Deed, Connecting, Starting, Staging, StageEnding, Ending, Spending, Quitting, Truncating, Changing, Showing, Querying, Refusing, Closing, IsPart, looks, remark, steps_for, part_entries, action_of}
use Rattle.pfs_law_session.proofs.FewTurns.{OneTurn, one_turn, TwoTurns, two_turns, ThreeTurns, three_turns}
use Rattle.pfs_law_plain.specs.Notes.{Note, Acted, all_told}
use Rattle.pfs_law_plain.specs.SessionNotes.{head_of, turns_notes}
use Rattle.pfs_law_plain.specs.Spells.{Doing, around, entering, doing_calls, IsEntered}
use Rattle.pfs_law_plain.proofs.InnerEntries.{told_then}
use Rattle.pfs_law_plain.proofs.QuietSessions.{AreAdded, added_front, added_back, AreQuiet, quiet_then, does_quiet, settles_nothing}

pub record AreQuietTurns (turns : List Turn) (after : State) : Type 0 where
  pub quiet : AreQuiet (turns_entries turns)
  pub held : after.held ≡ nothing_held

turns_quiet : (s : State) (turns : List Turn) → s.held ≡ nothing_held → AreAdded (turns_calls turns) → AreTurns s turns → AreQuietTurns turns (state_after s turns)
turns_quiet s [] h added are = record { quiet = tt; held = h }
turns_quiet s (t ∷ ts) h added are =
    let r = turns_quiet s ts h (added_back t.calls (turns_calls ts) added) are.1 in
    let q = does_quiet (state_after s ts) t.step t.calls t.entries t.after r.held (added_front t.calls (turns_calls ts) added) are.0 in
    record { quiet = quiet_then (turns_entries ts) t.entries r.quiet q.quiet; held = q.held }

-- steps that are no actions
abbrev AreStill : List Step → Type 0
AreStill [] = Unit {0}
AreStill (x ∷ xs) = (head_of x ≡ []) × AreStill xs

still_front : (xs ys : List Step) → AreStill (xs ++ ys) → AreStill xs
still_front [] ys a = tt
still_front (x ∷ xs) ys a = (a.0, still_front xs ys a.1)

still_back : (xs ys : List Step) → AreStill (xs ++ ys) → AreStill ys
still_back [] ys a = a
still_back (x ∷ xs) ys a = still_back xs ys a.1

still_then : (xs ys : List Step) → AreStill xs → AreStill ys → AreStill (xs ++ ys)
still_then [] ys a b = b
still_then (x ∷ xs) ys a b = (a.0, still_then xs ys a.1 b)

still_notes : (turns : List Turn) → AreStill (steps_of turns) → turns_notes turns ≡ all_told (turns_calls turns)
unfolding all_told
still_notes [] a = refl
still_notes (t ∷ ts) a =
    ap (λ z. turns_notes ts ++ (z ++ all_told t.calls)) (still_back (steps_of ts) (t.step ∷ []) a).0
    ∙ (ap (λ z. z ++ all_told t.calls) (still_notes ts (still_front (steps_of ts) (t.step ∷ []) a)) ∙ sym (told_then t.calls (turns_calls ts)))

stage_still : (events : List Open) → AreStill (stage_ends events)
stage_still [] = tt
stage_still (what ∷ events) = by_test (is_stage what.kind) where
  by_test : (b : Bool) → AreStill (cond b (EndsEvent no_numbers ∷ []) [])
  by_test true = (refl, tt)
  by_test false = tt

looks_still : (found : List Reading) → AreStill (looks found)
looks_still [] = tt
looks_still (reading ∷ found) = (refl, looks_still found)

-- an action's calls tell its number first
around_told : (label : Label) (labels : List Label) (met : Option (List ℕ)) (calls : List Call) → all_told (Leaves ∷ (calls ++ entering label labels met)) ≡ Acted (length labels + 1) ∷ all_told calls
unfolding all_told
around_told label labels None calls = append-nil (all_told (calls ++ entering label labels None)) ∙ told_then calls (entering label labels None)
around_told label labels (Some versions) calls =
    append-nil (all_told (calls ++ entering label labels (Some versions))) ∙ told_then calls (entering label labels (Some versions))

connect_notes : (s : State) (turns : List Turn) (step : Step) (n : ℕ) (label : Label) (labels : List Label) (met : Option (List ℕ)) → head_of step ≡ Acted n ∷ [] → n ≡ length labels + 1 → steps_of turns ≡ step ∷ []
    → turns_notes turns ≡ all_told (Leaves ∷ (turns_calls turns ++ entering label labels met))
connect_notes s turns step n label labels met head e steps =
    let o : OneTurn turns step = one_turn turns step steps in
    let P : List Turn → Type 0 = λ z. turns_notes z ≡ all_told (Leaves ∷ (turns_calls z ++ entering label labels met)) in
    subst P (sym o.is) (
    ap (λ z. head_of z ++ all_told o.turn.calls) o.step_is ∙ (ap (λ z. z ++ all_told o.turn.calls) head ∙ (ap (λ z. Acted z ∷ all_told o.turn.calls) e
    ∙ ap (λ z. Acted (length labels + 1) ∷ all_told z) (sym (append-nil o.turn.calls)))) ∙ sym (around_told label labels met (o.turn.calls ++ []))
    )

pub does_at : (s : State) (t : Turn) (step : Step) → t.step ≡ step → Does s t.step t.calls t.entries t.after → Does s step t.calls t.entries t.after
does_at s t step e d = subst (λ z. Does s z t.calls t.entries t.after) e d

quit_notes : (s : State) (turns : List Turn) (step : Step) (n : ℕ) (label : Label) (labels : List Label) (met : Option (List ℕ)) → s.held ≡ nothing_held → AreTurns s turns → head_of step ≡ Acted n ∷ [] → n ≡ length labels + 1
    → steps_of turns ≡ SettlesHeld ∷ step ∷ [] → turns_notes turns ≡ all_told (Leaves ∷ (turns_calls turns ++ entering label labels met))
unfolding all_told
quit_notes s turns step n label labels met h are head e steps =
    let o : TwoTurns turns SettlesHeld step = two_turns turns SettlesHeld step steps in
    let t : Turn = o.first in
    let u : Turn = o.second in
    let P : List Turn → Type 0 = λ z. turns_notes z ≡ all_told (Leaves ∷ (turns_calls z ++ entering label labels met)) in
    let ours : AreTurns s (u ∷ t ∷ []) = subst (AreTurns s) o.is are in
    let none : t.calls ≡ [] = (settles_nothing s t.calls t.entries t.after h (does_at s t SettlesHeld o.first_is ours.1.0)).calls_are in
    subst P (sym o.is) (
    ap (λ z. (head_of z ++ all_told t.calls) ++ (head_of u.step ++ all_told u.calls)) o.first_is ∙ (ap (λ z. all_told z ++ (head_of u.step ++ all_told u.calls)) none
    ∙ (ap (λ z. head_of z ++ all_told u.calls) o.second_is ∙ (ap (λ z. z ++ all_told u.calls) head ∙ (ap (λ z. Acted z ∷ all_told u.calls) e
    ∙ (ap (λ z. Acted (length labels + 1) ∷ all_told z) (sym (append-nil u.calls)) ∙ ap (λ z. Acted (length labels + 1) ∷ all_told (u.calls ++ (z ++ []))) (sym none))))))
    ∙ sym (around_told label labels met (u.calls ++ (t.calls ++ [])))
    )

-- the same, with what is told behind it of the rows that are shown
show_notes : (s : State) (turns : List Turn) (step : Step) (n count : ℕ) (label : Label) (labels : List Label) (met : Option (List ℕ)) → s.held ≡ nothing_held → AreTurns s turns → head_of step ≡ Acted n ∷ []
    → n ≡ length labels + 1 → steps_of turns ≡ SettlesHeld ∷ step ∷ remark (Rows count) ∷ [] → turns_notes turns ≡ all_told (Leaves ∷ (turns_calls turns ++ entering label labels met))
unfolding all_told
show_notes s turns step n count label labels met h are head e steps =
    let o : ThreeTurns turns SettlesHeld step (remark (Rows count)) = three_turns turns SettlesHeld step (remark (Rows count)) steps in
    let t : Turn = o.first in
    let u : Turn = o.second in
    let v : Turn = o.third in
    let P : List Turn → Type 0 = λ z. turns_notes z ≡ all_told (Leaves ∷ (turns_calls z ++ entering label labels met)) in
    let ours : AreTurns s (v ∷ u ∷ t ∷ []) = subst (AreTurns s) o.is are in
    let none : v.calls ≡ [] = (does_at u.after v (remark (Rows count)) o.third_is ours.0).calls_are in
    let first : P (u ∷ t ∷ []) = quit_notes s (u ∷ t ∷ []) step n label labels met h ours.1 head e (ap (λ z. z ∷ u.step ∷ []) o.first_is ∙ ap (λ z. SettlesHeld ∷ z ∷ []) o.second_is) in
    let before : List Note = turns_notes (u ∷ t ∷ []) in
    subst P (sym o.is)
    (ap (λ z. before ++ (head_of z ++ all_told v.calls)) o.third_is ∙ (ap (λ z. before ++ all_told z) none ∙ (append-nil before
    ∙ (first ∙ ap (λ z. all_told (Leaves ∷ ((z ++ (u.calls ++ (t.calls ++ []))) ++ entering label labels met))) (sym none)))))

deed_notes : (s : State) (deed : Deed) (turns : List Turn) (label : Label) (labels : List Label) (met : Option (List ℕ)) → s.held ≡ nothing_held → AreTurns s turns → steps_of turns ≡ steps_for s deed → IsEntered s label labels deed
    → turns_notes turns ≡ all_told (around label labels met (action_of deed) (turns_calls turns))
deed_notes s (Connecting admin user host) turns label labels met h are steps e = connect_notes s turns (Connects admin user host) (admin.actions + 1) label labels met refl e.0 steps
deed_notes s (Quitting admin) turns label labels met h are steps e = quit_notes s turns (Quits admin) (admin.actions + 1) label labels met h are refl e.0 steps
deed_notes s (Truncating admin what) turns label labels met h are steps e = quit_notes s turns (Truncates admin what) (admin.actions + 1) label labels met h are refl e.0 steps
deed_notes s (Changing admin what) turns label labels met h are steps e = quit_notes s turns (Changes admin what) (admin.actions + 1) label labels met h are refl e.0 steps
deed_notes s (Showing admin count) turns label labels met h are steps e = show_notes s turns (Changes admin Show) (admin.actions + 1) count label labels met h are refl e.0 steps
deed_notes s (Querying found count) turns label labels met h are steps e =
    still_notes turns (subst AreStill (sym steps) (refl, still_then (looks found) (remark (Rows count) ∷ []) (looks_still found) (refl, tt)))
deed_notes s (Refusing error) turns label labels met h are steps e = still_notes turns (subst AreStill (sym steps) (refl, tt))
deed_notes s (Starting subject) turns label labels met h are steps e = still_notes turns (subst AreStill (sym steps) (refl, tt))
deed_notes s (Staging subject) turns label labels met h are steps e =
    still_notes turns (subst AreStill (sym steps) (still_then (stage_ends s.opened.events) (StartsEvent subject ∷ []) (stage_still s.opened.events) (refl, tt)))
deed_notes s StageEnding turns label labels met h are steps e = still_notes turns (subst AreStill (sym steps) (still_then (stage_ends s.opened.events) [] (stage_still s.opened.events) tt))
deed_notes s (Ending numbers) turns label labels met h are steps e =
    still_notes turns (subst AreStill (sym steps) (still_then (stage_ends s.opened.events) (EndsEvent numbers ∷ []) (stage_still s.opened.events) (refl, tt)))
deed_notes s (Spending time) turns label labels met h are steps e = still_notes turns (subst AreStill (sym steps) (refl, tt))
deed_notes s Closing turns label labels met h are steps e = still_notes turns (subst AreStill (sym steps) (refl, tt))

around_added : (label : Label) (labels : List Label) (met : Option (List ℕ)) (action : Option ℕ) (calls : List Call) → AreAdded (around label labels met action calls) → AreAdded calls
around_added label labels met None calls a = a
around_added label labels met (Some number) calls a = added_front calls (entering label labels met) a.1

pub record IsDone (s : State) (d : Doing) : Type 0 where
  pub same : turns_notes d.part.turns ≡ all_told (doing_calls d)
  pub quiet : AreQuiet (part_entries d.part)
  pub held : (state_after s d.part.turns).held ≡ nothing_held

pub doing_told : (s : State) (d : Doing) → s.held ≡ nothing_held → IsPart s d.part → IsEntered s d.label d.labels d.part.deed → AreAdded (doing_calls d) → IsDone s d
doing_told s d h p e added =
    let turns = d.part.turns in
    let r = turns_quiet s turns h (around_added d.label d.labels d.met (action_of d.part.deed) (turns_calls turns) added) p.are_turns in
    record { same = deed_notes s d.part.deed turns d.label d.labels d.met h p.are_turns p.steps_are e; quiet = r.quiet; held = r.held }
