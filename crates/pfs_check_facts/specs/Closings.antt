-- What closes events among the moments to come, and the facts of events by that.
use Rattle.std.specs.Prelude.{ℕ, ◌≡◌, ◌+◌, ◌-◌, ◌%◌, ◌^◌, cond, List, [], ◌∷◌, ◌++◌, reverse, slice_get, Option, Some, None}
use Rattle.pfs_event.specs.declared.kind.EventKind.{EventKind}
use Rattle.pfs_event.specs.declared.kind.EventKind.TheVariants as kinds
use Rattle.pfs_script.specs.Brackets.{closes, depth_behind}
use Rattle.pfs_script.specs.Events.{no_numbers, numbers_for}
use Rattle.pfs_check_facts.specs.declared.closings.Closings.{Closings}
use Rattle.pfs_check_facts.specs.declared.events.EventFacts.{EventFacts}
use Rattle.pfs_check_facts.specs.declared.moments.Moment.{Moment}
use Rattle.pfs_check_facts.specs.declared.moments.Turn.{Turn}
use Rattle.pfs_check_facts.specs.declared.moments.Turn.TheVariants as turns
use Rattle.pfs_check_facts.specs.Moments.{mark_in}

-- the moment that closes an event of a kind, with so many other than stages open in between
abbrev pub closing_in : EventKind → ℕ → List Moment → Option Moment
closing_in kind depth [] = None
closing_in kind depth (moment ∷ later) =
    cond (closes kind depth (mark_in moment.turn)) (Some moment)
    (closing_in kind (depth_behind (mark_in moment.turn) depth) later)

abbrev pub first_moment : List Moment → Option Moment
first_moment [] = None
first_moment (moment ∷ moments) = Some moment

abbrev pub closings_for : EventKind → Closings → List Moment
closings_for kinds.Stage closings = closings.stages.items
closings_for kinds.Wait closings = closings.others.items
closings_for kinds.Statement closings = closings.others.items
closings_for kinds.Transaction closings = closings.others.items

-- for each kind of event and each depth the moment to come that closes such an event
abbrev pub AreClosings : List Moment → Closings → Type 0
AreClosings later closings = (kind : EventKind) (depth : ℕ)
    → slice_get (reverse (closings_for kind closings)) depth ≡ closing_in kind depth later

abbrev pub nothing_said : EventFacts
nothing_said = record { start = 0; duration = 0; numbers = no_numbers }

-- clocks go round
abbrev pub facts_between : Moment → EventKind → Option Moment → EventFacts
facts_between opening kind None = record { start = opening.clock; duration = 0; numbers = no_numbers }
facts_between opening kind (Some closing) = record {
  start = opening.clock;
  duration = (closing.clock + (2 ^ 64 - opening.clock)) % 2 ^ 64;
  numbers = numbers_for kind closing.numbers;
}

abbrev pub facts_at : Moment → Turn → List Moment → List EventFacts
facts_at opening (turns.Opens kind) later = facts_between opening kind (closing_in kind 0 later) ∷ []
facts_at opening turns.Ends later = []
facts_at opening turns.EndsStage later = []

-- of the events that these moments open
abbrev pub facts_along : List Moment → List EventFacts
facts_along [] = []
facts_along (moment ∷ later) = facts_at moment moment.turn later ++ facts_along later
