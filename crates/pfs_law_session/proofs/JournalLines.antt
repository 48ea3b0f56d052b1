-- The law of a line, and of lines one after another.
use Rattle.std.proofs.Common.{ℕ, ◌≡◌, Bool, true, false, List, [], ◌∷◌, Option, Some, None, refl, ap, ◌∙◌, subst}
use Rattle.std.proofs.lemmas.Bool.{true≢false}
use Rattle.pfs_event.specs.Verdicts.{is_let_through}
use Rattle.pfs_event.specs.declared.entry.Entry.{Entry}
use Rattle.pfs_levels.specs.Calls.{Call}
use Rattle.pfs_model.specs.Contexts.{Context, after}
use Rattle.pfs_session.specs.Ends.{Ends, EndsIn}
use Rattle.pfs_session.specs.SessionStates.{State}
use Rattle.pfs_session.specs.Turns.{Step, StartsEvent, EndsEvent, Spends, SettlesHeld, Connects, Quits, Truncates, Changes, Inquires, Does, Turn, AreTurns, state_after, steps_of, turns_calls, turns_entries}
use Rattle.pfs_session.specs.declared.events.Numbers.{Numbers}
use Rattle.pfs_session.proofs.EndFrames.{through_leaves}
use Rattle.pfs_law_session.proofs.LinePieces.{judged_then, numbered_then}
use Rattle.pfs_law_session.proofs.LineEntries.{IsLine, written_by, starting_line, staging_line, stage_end_line, end_line, spend_line, connect_line, quit_line, truncation_line, change_line, show_line, query_line, refusal_line, close_line, over_line, ends_stack}
use Rattle.pfs_law_session.specs.Agreement.{LoadsAgree, Stands}
use Rattle.pfs_law_session.specs.Deeds.{Deed, Connecting, Starting, Staging, StageEnding, Ending, Spending, Quitting, Truncating, Changing, Showing, Querying, Refusing, Closing, Part, MayDo, is_over, line_of, steps_for}
use Rattle.pfs_law_session.specs.JournalLaws.{WrittenLaw, IsJournaled, JournalLaw, AreParts, MayDoAll, AllLoadsAgree, state_behind}

by_deed : (flags : ℕ → ℕ → ℕ) (over : Bool) (context : Context) (s : State) (deed : Deed) (turns : List Turn) → Stands flags over context s → MayDo over s deed → AreTurns s turns
    → steps_of turns ≡ steps_for s deed → LoadsAgree flags (turns_calls turns)
    → IsLine flags s.stack (is_over over deed) context (line_of deed) (turns_entries turns) (state_after s turns)
by_deed flags false context s (Connecting admin user host) turns a may are steps loads = connect_line flags context s admin user host turns a may.1 may.2 may.3 are steps
by_deed flags false context s (Starting subject) turns a may are steps loads = starting_line flags context s _ subject turns a may.1 refl refl are steps loads
by_deed flags false context s (Staging subject) turns a may are steps loads = staging_line flags context s subject turns a may.1 are steps loads
by_deed flags false context s StageEnding turns a may are steps loads = stage_end_line flags context s turns a are steps
by_deed flags false context s (Ending numbers) turns a may are steps loads = end_line flags context s numbers turns a are steps
by_deed flags false context s (Spending time) turns a may are steps loads = spend_line flags context s time turns a are steps
by_deed flags false context s (Quitting admin) turns a may are steps loads = quit_line flags context s admin turns a may.1 are steps
by_deed flags false context s (Truncating admin what) turns a may are steps loads = truncation_line flags context s admin what turns a are steps
by_deed flags false context s (Changing admin what) turns a may are steps loads = change_line flags context s admin what turns a may.1 are steps
by_deed flags false context s (Showing admin count) turns a may are steps loads = show_line flags context s admin count turns a are steps
by_deed flags false context s (Querying readings count) turns a may are steps loads = query_line flags context s readings count turns a are steps
by_deed flags false context s (Refusing error) turns a may are steps loads = refusal_line flags context s error turns a are steps
by_deed flags false context s Closing turns a may are steps loads = close_line flags context s turns a are steps
by_deed flags true context s (Connecting admin user host) turns a may are steps loads = absurd (true≢false may.0)
by_deed flags true context s (Starting subject) turns a may are steps loads = absurd (true≢false may.0)
by_deed flags true context s (Staging subject) turns a may are steps loads = absurd (true≢false may.0)
by_deed flags true context s StageEnding turns a may are steps loads = absurd (true≢false may)
by_deed flags true context s (Ending numbers) turns a may are steps loads = absurd (true≢false may)
by_deed flags true context s (Spending time) turns a may are steps loads = absurd (true≢false may)
by_deed flags true context s (Quitting admin) turns a may are steps loads = absurd (true≢false may.0)
by_deed flags true context s (Truncating admin what) turns a may are steps loads = absurd (true≢false may)
by_deed flags true context s (Changing admin what) turns a may are steps loads = absurd (true≢false may.0)
by_deed flags true context s (Showing admin count) turns a may are steps loads = absurd (true≢false may)
by_deed flags true context s (Querying readings count) turns a may are steps loads = absurd (true≢false may.0)
by_deed flags true context s (Refusing error) turns a may are steps loads = absurd (true≢false may)
by_deed flags true context s Closing turns a may are steps loads = over_line flags context s turns a are steps

pub written : WrittenLaw
written = λ flags over context s p stands may part loads.
    written_by flags s.stack (is_over over p.deed) context (line_of p.deed) (turns_entries p.turns) (state_after s p.turns)
    (by_deed flags over context s p.deed p.turns stands may part.are_turns part.steps_are loads)

-- no step changes how many statements may be open
does_stack : (s : State) (step : Step) (calls : List Call) (entries : List Entry) (after : State) → Does s step calls entries after → after.stack ≡ s.stack
does_stack s (StartsEvent subject) calls entries after d = ap (λ (z : State). z.stack) d.begins.after_is
does_stack s (EndsEvent numbers) calls entries after d = ends_stack s numbers calls entries after d
does_stack s (Spends time) calls entries after d = ap (λ (z : State). z.stack) d.2
does_stack s SettlesHeld calls entries after d = ap (λ (z : State). z.stack) d.after_is
does_stack s (Connects admin user host) calls entries after d = ap (λ (z : State). z.stack) d.1
does_stack s (Quits admin) calls entries after d = ap (λ (z : State). z.stack) d.1
does_stack s (Truncates admin what) calls entries after d = ap (λ (z : State). z.stack) d.after_is
does_stack s (Changes admin what) calls entries after d = ap (λ (z : State). z.stack) d.after_is
does_stack s (Inquires what) calls entries after d = ap (λ (z : State). z.stack) d.after_is

pub turns_stack : (s : State) (turns : List Turn) → AreTurns s turns → (state_after s turns).stack ≡ s.stack
turns_stack s [] are = refl
turns_stack s (t ∷ ts) are = does_stack (state_after s ts) t.step t.calls t.entries t.after are.0 ∙ turns_stack s ts are.1

-- nor does any change the session's number
ends_number : (s : State) (numbers : Numbers) (calls : List Call) (entries : List Entry) (after : State) → Ends s numbers calls entries after → after.number ≡ s.number
ends_number s numbers calls entries after e = by_case s.place.thread (is_let_through e.what.verdict) e.ends where
  by_case : (slot : Option ℕ) (b : Bool) → EndsIn s slot b e.what e.others numbers calls entries after → after.number ≡ s.number
  by_case slot false x = ap (λ (z : State). z.number) x.after_is
  by_case None true x = absurd x
  by_case (Some slot) true x = ap (λ (z : State). z.number) (through_leaves s slot e.what e.others numbers calls entries after x)

does_number : (s : State) (step : Step) (calls : List Call) (entries : List Entry) (after : State) → Does s step calls entries after → after.number ≡ s.number
does_number s (StartsEvent subject) calls entries after d = ap (λ (z : State). z.number) d.begins.after_is
does_number s (EndsEvent numbers) calls entries after d = ends_number s numbers calls entries after d
does_number s (Spends time) calls entries after d = ap (λ (z : State). z.number) d.2
does_number s SettlesHeld calls entries after d = ap (λ (z : State). z.number) d.after_is
does_number s (Connects admin user host) calls entries after d = ap (λ (z : State). z.number) d.1
does_number s (Quits admin) calls entries after d = ap (λ (z : State). z.number) d.1
does_number s (Truncates admin what) calls entries after d = ap (λ (z : State). z.number) d.after_is
does_number s (Changes admin what) calls entries after d = ap (λ (z : State). z.number) d.after_is
does_number s (Inquires what) calls entries after d = ap (λ (z : State). z.number) d.after_is

pub turns_number : (s : State) (turns : List Turn) → AreTurns s turns → (state_after s turns).number ≡ s.number
turns_number s [] are = refl
turns_number s (t ∷ ts) are = does_number (state_after s ts) t.step t.calls t.entries t.after are.0 ∙ turns_number s ts are.1

pub parts_number : (s : State) (parts : List Part) → AreParts s parts → (state_behind s parts).number ≡ s.number
parts_number s [] are = refl
parts_number s (p ∷ ps) are = parts_number (state_after s p.turns) ps are.1 ∙ turns_number s p.turns are.0.are_turns

pub parts_stack : (s : State) (parts : List Part) → AreParts s parts → (state_behind s parts).stack ≡ s.stack
parts_stack s [] are = refl
parts_stack s (p ∷ ps) are = parts_stack (state_after s p.turns) ps are.1 ∙ turns_stack s p.turns are.0.are_turns

pub journaled : JournalLaw
journaled = λ flags over context s parts stands may are loads. all flags over context s parts stands may are loads where
  all : (flags : ℕ → ℕ → ℕ) (over : Bool) (context : Context) (s : State) (parts : List Part) → Stands flags over context s → MayDoAll over s parts → AreParts s parts
      → AllLoadsAgree flags parts → IsJournaled flags s.stack over context s parts
  all flags over context s [] stands may are loads = record { shaped = tt; judged = λ p k. tt; numbered = λ p k. tt; stands = stands }
  all flags over context s (p ∷ ps) stands may are loads =
      let w = written flags over context s p stands may.0 are.0 loads.0 in
      let next : Context = after context (line_of p.deed) (turns_entries p.turns) in
      let j0 = all flags (is_over over p.deed) next (state_after s p.turns) ps w.stands may.1 are.1 loads.1 in
      let j : IsJournaled flags s.stack (is_over over p.deed) next (state_after s p.turns) ps =
      subst (λ z. IsJournaled flags z (is_over over p.deed) next (state_after s p.turns) ps) (turns_stack s p.turns are.0.are_turns) j0 in
      record {
        shaped = (w.shaped, j.shaped);
        judged = λ phase session. judged_then s.stack flags _ _ (w.judged phase session) (j.judged phase session);
        numbered = λ phase session. numbered_then _ _ (w.numbered phase session) (j.numbered phase session);
        stands = j.stands;
      }
