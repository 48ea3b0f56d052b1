-- A session counts its actions.
use Rattle.std.proofs.Common.{ℕ, ◌≡◌, ◌+◌, Bool, true, false, cond, List, [], ◌∷◌, ◌++◌, Option, Some, None, refl, ap, sym, ◌∙◌}
use Rattle.pfs_event.specs.Verdicts.{is_let_through}
use Rattle.pfs_event.specs.declared.entry.Entry.{Entry}
use Rattle.pfs_event.specs.declared.open.Open.{Open}
use Rattle.pfs_levels.specs.Calls.{Call}
use Rattle.pfs_model.specs.Shapes.{is_stage}
use Rattle.pfs_law_session.specs.Deeds.{Deed, Connecting, Starting, Staging, StageEnding, Ending, Spending, Quitting, Truncating, Changing, Showing, Querying, Refusing, Closing, Part, IsPart, looks, remark, steps_for}
use Rattle.pfs_rows.specs.declared.table.Reading.{Reading}
use Rattle.pfs_session.proofs.EndFrames.{through_leaves}
use Rattle.pfs_session.specs.Ends.{Ends, EndsIn, no_numbers}
use Rattle.pfs_session.specs.SessionStates.{State}
use Rattle.pfs_session.specs.Turns.{Step, StartsEvent, EndsEvent, Spends, SettlesHeld, Connects, Quits, Truncates, Changes, Inquires, Does, Turn, AreTurns, state_after, steps_of, stage_ends}
use Rattle.pfs_session.specs.declared.events.Numbers.{Numbers}
use Rattle.pfs_session.specs.declared.remarks.Remark.TheVariants.{Rows}

-- how many actions there are behind one
abbrev pub made_by : ℕ → Deed → ℕ
made_by made (Connecting admin user host) = made + 1
made_by made (Quitting admin) = made + 1
made_by made (Truncating admin what) = made + 1
made_by made (Changing admin what) = made + 1
made_by made (Showing admin count) = made + 1
made_by made (Querying found count) = made
made_by made (Refusing error) = made
made_by made (Starting subject) = made
made_by made (Staging subject) = made
made_by made StageEnding = made
made_by made (Ending numbers) = made
made_by made (Spending time) = made
made_by made Closing = made

abbrev made_at : ℕ → Step → ℕ
made_at made (Connects admin user host) = made + 1
made_at made (Quits admin) = made + 1
made_at made (Truncates admin what) = made + 1
made_at made (Changes admin what) = made + 1
made_at made (Inquires what) = made
made_at made (StartsEvent subject) = made
made_at made (EndsEvent numbers) = made
made_at made (Spends time) = made
made_at made SettlesHeld = made

abbrev made_in : ℕ → List Step → ℕ
made_in made [] = made
made_in made (step ∷ steps) = made_in (made_at made step) steps

made_then : (made : ℕ) (xs ys : List Step) → made_in made (xs ++ ys) ≡ made_in (made_in made xs) ys
made_then made [] ys = refl
made_then made (x ∷ xs) ys = made_then (made_at made x) xs ys

ends_actions : (s : State) (numbers : Numbers) (calls : List Call) (entries : List Entry) (after : State) → Ends s numbers calls entries after → after.actions ≡ s.actions
ends_actions s numbers calls entries after e = by_case s.place.thread (is_let_through e.what.verdict) e.ends where
  by_case : (slot : Option ℕ) (b : Bool) → EndsIn s slot b e.what e.others numbers calls entries after → after.actions ≡ s.actions
  by_case slot false x = ap (λ (z : State). z.actions) x.after_is
  by_case None true x = absurd x
  by_case (Some slot) true x = ap (λ (z : State). z.actions) (through_leaves s slot e.what e.others numbers calls entries after x)

does_actions : (s : State) (step : Step) (calls : List Call) (entries : List Entry) (after : State) → Does s step calls entries after → after.actions ≡ made_at s.actions step
does_actions s (StartsEvent subject) calls entries after d = ap (λ (z : State). z.actions) d.begins.after_is
does_actions s (EndsEvent numbers) calls entries after d = ends_actions s numbers calls entries after d
does_actions s (Spends time) calls entries after d = ap (λ (z : State). z.actions) d.2
does_actions s SettlesHeld calls entries after d = ap (λ (z : State). z.actions) d.after_is
does_actions s (Connects admin user host) calls entries after d = ap (λ (z : State). z.actions) d.1
does_actions s (Quits admin) calls entries after d = ap (λ (z : State). z.actions) d.1
does_actions s (Truncates admin what) calls entries after d = ap (λ (z : State). z.actions) d.after_is
does_actions s (Changes admin what) calls entries after d = ap (λ (z : State). z.actions) d.after_is
does_actions s (Inquires what) calls entries after d = ap (λ (z : State). z.actions) d.after_is

turns_actions : (s : State) (turns : List Turn) → AreTurns s turns → (state_after s turns).actions ≡ made_in s.actions (steps_of turns)
turns_actions s [] are = refl
turns_actions s (t ∷ ts) are =
    does_actions (state_after s ts) t.step t.calls t.entries t.after are.0
    ∙ (ap (λ n. made_at n t.step) (turns_actions s ts are.1) ∙ sym (made_then s.actions (steps_of ts) (t.step ∷ [])))

stage_none : (made : ℕ) (events : List Open) (rest : List Step) → made_in made (stage_ends events ++ rest) ≡ made_in made rest
stage_none made [] rest = refl
stage_none made (what ∷ events) rest = by_test (is_stage what.kind) where
  by_test : (b : Bool) → made_in made (cond b (EndsEvent no_numbers ∷ []) [] ++ rest) ≡ made_in made rest
  by_test true = refl
  by_test false = refl

looks_none : (made : ℕ) (found : List Reading) (rest : List Step) → made_in made (looks found ++ rest) ≡ made_in made rest
looks_none made [] rest = refl
looks_none made (reading ∷ found) rest = looks_none made found rest

steps_made : (s : State) (made : ℕ) (deed : Deed) → made_in made (steps_for s deed) ≡ made_by made deed
steps_made s made (Connecting admin user host) = refl
steps_made s made (Quitting admin) = refl
steps_made s made (Truncating admin what) = refl
steps_made s made (Changing admin what) = refl
steps_made s made (Showing admin count) = refl
steps_made s made (Querying found count) = looks_none made found (remark (Rows count) ∷ [])
steps_made s made (Refusing error) = refl
steps_made s made (Starting subject) = refl
steps_made s made (Staging subject) = stage_none made s.opened.events (StartsEvent subject ∷ [])
steps_made s made StageEnding = stage_none made s.opened.events []
steps_made s made (Ending numbers) = stage_none made s.opened.events (EndsEvent numbers ∷ [])
steps_made s made (Spending time) = refl
steps_made s made Closing = refl

pub part_actions : (s : State) (p : Part) → IsPart s p → (state_after s p.turns).actions ≡ made_by s.actions p.deed
part_actions s p is = turns_actions s p.turns is.are_turns ∙ (ap (made_in s.actions) is.steps_are ∙ steps_made s s.actions p.deed)
