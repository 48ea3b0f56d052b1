-- The numbers of actions that a line's entries print are that of its action, and a line without one prints none.
use Rattle.std.proofs.Common.{ℕ, ◌≡◌, ◌==◌, Bool, true, false, cond, List, [], ◌∷◌, ◌++◌, Option, Some, None, refl, ap, sym, ◌∙◌, append_assoc}
use Rattle.pfs_event.specs.declared.entry.Entry.{Entry}
use Rattle.pfs_event.specs.declared.entry.Entry.TheVariants as says
use Rattle.pfs_event.specs.declared.open.Open.{Open}
use Rattle.pfs_levels.specs.Calls.{Call, Adds, Rings, Reads, Loads, Draws, Takes, Puts, Frees, Sets, Enters, Leaves, Meets}
use Rattle.pfs_levels.specs.declared.answers.Added.TheVariants.{Counted, Held}
use Rattle.pfs_levels.specs.declared.answers.RingPut.TheVariants.{Done, Busy, Late}
use Rattle.pfs_model.specs.Chains.{action_change, change_at, each_of}
use Rattle.pfs_model.specs.Contexts.{Context, subject_of}
use Rattle.pfs_model.specs.Actions.{numbers_by}
use Rattle.pfs_model.specs.EntryPlaces.{Placed, by_session}
use Rattle.pfs_model.specs.SetupFlags.{loads_at}
use Rattle.pfs_model.specs.Shapes.{is_stage}
use Rattle.pfs_model.specs.declared.changes.Change.{Change}
use Rattle.pfs_model.specs.declared.lines.Subject.{Subject}
use Rattle.pfs_rows.specs.declared.table.Reading.{Reading}
use Rattle.pfs_rows.specs.declared.table.Seen.TheVariants as seen
use Rattle.pfs_session.specs.Ends.{no_numbers}
use Rattle.pfs_session.specs.SessionStates.{State}
use Rattle.pfs_session.specs.Turns.{Step, StartsEvent, EndsEvent, Turn, state_after, steps_of, stage_ends}
use Rattle.pfs_session.specs.declared.remarks.Remark.TheVariants.{Rows}
use Rattle.pfs_law_session.specs.Deeds.{Deed, Connecting, Starting, Staging, StageEnding, Ending, Spending, Quitting, Truncating, Changing, Showing, Querying, Refusing, Closing, Part, IsPart, action_of, looks, remark, steps_for}
use Rattle.pfs_law_session.specs.JournalLaws.{AreParts}
use Rattle.pfs_law_session.specs.Stints.{Stint, AreDone, parts_by}
use Rattle.pfs_law_plain.specs.Notes.{Note, Wrote, Freed, Found, Vacant, Refused, Overdue, Switched, Saw, Acted, saw_all, notes_at, notes_of, told, all_told}
use Rattle.pfs_law_plain.specs.SessionNotes.{head_of, turns_notes, parts_notes}
use Rattle.pfs_law_shared.proofs.InnerCalls.{IsWithin, AreWithin, TurnsWithin, turns_within}

abbrev pub acts : List Note → List Change
acts [] = []
acts (Acted number ∷ notes) = change_at 0 number ∷ acts notes
acts (Wrote row version ∷ notes) = acts notes
acts (Freed row version ∷ notes) = acts notes
acts (Found row version ∷ notes) = acts notes
acts (Vacant row ∷ notes) = acts notes
acts (Refused row first second ∷ notes) = acts notes
acts (Overdue row ticket ∷ notes) = acts notes
acts (Switched word version flags ∷ notes) = acts notes
acts (Saw word version ∷ notes) = acts notes

acts_then : (xs ys : List Note) → acts (xs ++ ys) ≡ acts xs ++ acts ys
acts_then [] ys = refl
acts_then (Acted number ∷ xs) ys = ap (λ z. change_at 0 number ∷ z) (acts_then xs ys)
acts_then (Wrote row version ∷ xs) ys = acts_then xs ys
acts_then (Freed row version ∷ xs) ys = acts_then xs ys
acts_then (Switched word version flags ∷ xs) ys = acts_then xs ys
acts_then (Saw word version ∷ xs) ys = acts_then xs ys
acts_then (Found row version ∷ xs) ys = acts_then xs ys
acts_then (Vacant row ∷ xs) ys = acts_then xs ys
acts_then (Refused row first second ∷ xs) ys = acts_then xs ys
acts_then (Overdue row ticket ∷ xs) ys = acts_then xs ys

-- of entries
saw_none : (loads : List Change) → acts (saw_all loads) ≡ []
saw_none [] = refl
saw_none (l ∷ ls) = saw_none ls

entry_acts : (subject : Option Subject) (context : Context) (e : Entry) → acts (notes_at subject context e) ≡ action_change e
entry_acts subject context (says.Start event verdict consumers thread class table) = saw_none (loads_at subject context (says.Start event verdict consumers thread class table))
entry_acts subject context (says.End event last consumers thread) = saw_none (loads_at subject context (says.End event last consumers thread))
entry_acts subject context (says.Connect action thread account user host) = refl
entry_acts subject context (says.Act action) = refl
entry_acts subject context _ = refl

pub places_acts : (ps : List Placed) → each_of action_change ps ≡ acts (notes_of ps)
places_acts [] = refl
places_acts (p ∷ ps) =
    ap (λ z. action_change p.entry ++ z) (places_acts ps)
    ∙ (ap (λ z. z ++ acts (notes_of ps)) (sym (entry_acts (subject_of p.line) p.context p.entry)) ∙ sym (acts_then (notes_at (subject_of p.line) p.context p.entry) (notes_of ps)))

pub own_acts : (session : ℕ) (ps : List Placed) → numbers_by session ps ≡ each_of action_change (by_session session ps)
own_acts session [] = refl
own_acts session (p ∷ ps) = at (p.session == session) (own_acts session ps) where
  at : (b : Bool) → numbers_by session ps ≡ each_of action_change (by_session session ps) → cond b (action_change p.entry) [] ++ numbers_by session ps ≡ each_of action_change (cond b (p ∷ []) [] ++ by_session session ps)
  at true e = ap (λ z. action_change p.entry ++ z) e
  at false e = e

-- of calls
call_acts : (call : Call) → IsWithin call → acts (told call) ≡ []
call_acts (Enters label labels) w = absurd w
call_acts Leaves w = absurd w
call_acts (Adds at amount (Counted r v)) w = refl
call_acts (Adds at amount (Held r v x)) w = refl
call_acts (Rings at content (Done v)) w = refl
call_acts (Rings at content (Busy v x)) w = refl
call_acts (Rings at content (Late t v)) w = refl
call_acts (Reads at (seen.Whole v found)) w = refl
call_acts (Reads at (seen.Free x)) w = refl
call_acts (Reads at (seen.Busy v x)) w = refl
call_acts (Loads at v found) w = refl
call_acts (Draws kind ticket) w = refl
call_acts (Takes at v found) w = refl
call_acts (Puts at content v) w = refl
call_acts (Frees at v) w = refl
call_acts (Sets at to v) w = refl
call_acts (Meets versions) w = refl

calls_acts : (calls : List Call) → AreWithin calls → acts (all_told calls) ≡ []
unfolding all_told
calls_acts [] w = refl
calls_acts (call ∷ calls) w = acts_then (all_told calls) (told call) ∙ (ap (λ z. z ++ acts (told call)) (calls_acts calls w.1) ∙ call_acts call w.0)

-- of steps
abbrev heads : List Step → List Change
heads [] = []
heads (step ∷ steps) = acts (head_of step) ++ heads steps

heads_then : (xs ys : List Step) → heads (xs ++ ys) ≡ heads xs ++ heads ys
heads_then [] ys = refl
heads_then (x ∷ xs) ys = ap (λ z. acts (head_of x) ++ z) (heads_then xs ys) ∙ sym (append_assoc (acts (head_of x)) (heads xs) (heads ys))

turns_acts : (turns : List Turn) → TurnsWithin turns → acts (turns_notes turns) ≡ heads (steps_of turns)
turns_acts [] w = refl
turns_acts (t ∷ ts) w =
    acts_then (turns_notes ts) (head_of t.step ++ all_told t.calls)
    ∙ (ap (λ z. z ++ acts (head_of t.step ++ all_told t.calls)) (turns_acts ts w.1)
    ∙ (ap (λ z. heads (steps_of ts) ++ z) (acts_then (head_of t.step) (all_told t.calls) ∙ ap (λ z. acts (head_of t.step) ++ z) (calls_acts t.calls w.0))
    ∙ sym (heads_then (steps_of ts) (t.step ∷ []))))

stage_heads : (events : List Open) (rest : List Step) → heads (stage_ends events ++ rest) ≡ heads rest
stage_heads [] rest = refl
stage_heads (what ∷ events) rest = by_test (is_stage what.kind) where
  by_test : (b : Bool) → heads (cond b (EndsEvent no_numbers ∷ []) [] ++ rest) ≡ heads rest
  by_test true = refl
  by_test false = refl

looks_heads : (readings : List Reading) (rest : List Step) → heads (looks readings ++ rest) ≡ heads rest
looks_heads [] rest = refl
looks_heads (reading ∷ readings) rest = looks_heads readings rest

abbrev pub act_by : Option ℕ → List Change
act_by None = []
act_by (Some number) = change_at 0 number ∷ []

deed_heads : (s : State) (deed : Deed) → heads (steps_for s deed) ≡ act_by (action_of deed)
deed_heads s (Connecting admin user host) = refl
deed_heads s (Quitting admin) = refl
deed_heads s (Truncating admin what) = refl
deed_heads s (Changing admin what) = refl
deed_heads s (Showing admin count) = refl
deed_heads s (Querying readings count) = looks_heads readings (remark (Rows count) ∷ [])
deed_heads s (Refusing error) = refl
deed_heads s (Starting subject) = refl
deed_heads s (Staging subject) = stage_heads s.opened.events (StartsEvent subject ∷ [])
deed_heads s StageEnding = stage_heads s.opened.events []
deed_heads s (Ending numbers) = stage_heads s.opened.events (EndsEvent numbers ∷ [])
deed_heads s (Spending time) = refl
deed_heads s Closing = refl

pub part_acts : (s : State) (p : Part) → IsPart s p → acts (turns_notes p.turns) ≡ act_by (action_of p.deed)
part_acts s p is = turns_acts p.turns (turns_within s p.turns is.are_turns) ∙ (ap heads is.steps_are ∙ deed_heads s p.deed)

-- of the lines of a session, and of those of all its blocks
abbrev pub acts_of : List Part → List Change
acts_of [] = []
acts_of (p ∷ ps) = act_by (action_of p.deed) ++ acts_of ps

pub parts_acts : (s : State) (ps : List Part) → AreParts s ps → acts (parts_notes ps) ≡ acts_of ps
parts_acts s [] are = refl
parts_acts s (p ∷ ps) are =
    acts_then (turns_notes p.turns) (parts_notes ps)
    ∙ (ap (λ z. z ++ acts (parts_notes ps)) (part_acts s p are.0) ∙ ap (λ z. act_by (action_of p.deed) ++ z) (parts_acts (state_after s p.turns) ps are.1))

notes_then : (xs ys : List Part) → parts_notes (xs ++ ys) ≡ parts_notes xs ++ parts_notes ys
notes_then [] ys = refl
notes_then (x ∷ xs) ys = ap (λ z. turns_notes x.turns ++ z) (notes_then xs ys) ∙ sym (append_assoc (turns_notes x.turns) (parts_notes xs) (parts_notes ys))

of_then : (xs ys : List Part) → acts_of (xs ++ ys) ≡ acts_of xs ++ acts_of ys
of_then [] ys = refl
of_then (x ∷ xs) ys = ap (λ z. act_by (action_of x.deed) ++ z) (of_then xs ys) ∙ sym (append_assoc (act_by (action_of x.deed)) (acts_of xs) (acts_of ys))

pub stints_acts : (session : ℕ) (stints : List Stint) → AreDone stints → acts (parts_notes (parts_by session stints)) ≡ acts_of (parts_by session stints)
stints_acts session [] done = refl
stints_acts session (stint ∷ stints) done =
    let own : List Part = cond (stint.session == session) stint.parts [] in
    ap acts (notes_then own (parts_by session stints))
    ∙ (acts_then (parts_notes own) (parts_notes (parts_by session stints))
    ∙ (ap (λ z. z ++ acts (parts_notes (parts_by session stints))) (at (stint.session == session))
    ∙ (ap (λ z. acts_of own ++ z) (stints_acts session stints done.1) ∙ sym (of_then own (parts_by session stints))))) where
      at : (b : Bool) → acts (parts_notes (cond b stint.parts [])) ≡ acts_of (cond b stint.parts [])
      at true = parts_acts done.0.from stint.parts done.0.are_parts
      at false = refl
