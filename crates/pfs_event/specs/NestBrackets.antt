-- Openings and closings as brackets, and the same as a nest runs them.
use Rattle.std.specs.Prelude.{ℕ, zero, suc, ◌≡◌, List, [], ◌∷◌, ◌++◌, Option, Some, None, Ok}
use Rattle.pfs_event.specs.declared.open.Open.{Open}
use Rattle.pfs_event.specs.Nests.{OpenEvents, StartGives, EndGives}

-- an opening or a closing
pub data Step : Type 0 where
  Starts : Open → Step
  Ends : Step

-- how many are open after the steps, where so many are before them; none where a closing finds nothing open
abbrev pub depth_after : ℕ → List Step → Option ℕ
depth_after depth [] = Some depth
depth_after depth (Starts what ∷ steps) = depth_after (suc depth) steps
depth_after zero (Ends ∷ steps) = None
depth_after (suc depth) (Ends ∷ steps) = depth_after depth steps

-- between an opening and a closing, the depth never falls below that after the opening and is back at the end: so
-- this closing is the first that brings it back to that before the opening
abbrev pub IsInside : List Step → Type 0
IsInside steps = depth_after zero steps ≡ Some zero

-- the events that are open after the steps, from the innermost on, as starting and ending makes them; none where an
-- end is refused
abbrev pub open_after : List Step → List Open → Option (List Open)
open_after [] events = Some events
open_after (Starts what ∷ steps) events = open_after steps (what ∷ events)
open_after (Ends ∷ steps) [] = None
open_after (Ends ∷ steps) (what ∷ events) = open_after steps events

-- a closing right after the steps is the partner of the opening of this event, before which those others were open
abbrev pub ClosesNext : List Step → Open → List Open → Type 0
ClosesNext steps what others =
    (before : List Step) × ((inside : List Step)
    × ((steps ≡ before ++ Starts what ∷ inside) × IsInside inside × (open_after before [] ≡ Some others)))

-- a nest took the steps one after another and refused none
abbrev pub Took : OpenEvents → List Step → OpenEvents → Type 0
Took old [] new = new ≡ old
Took old (Starts what ∷ steps) new = (next : OpenEvents) × (StartGives old what (Ok tt) next × Took next steps new)
Took old (Ends ∷ steps) new =
    (next : OpenEvents) × ((what : Open) × (EndGives old (Ok what) next × Took next steps new))
