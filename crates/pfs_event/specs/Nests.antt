-- The open events of a session, and what starting and ending does to them.
use Rattle.std.specs.Prelude.{ℕ, ◌≡◌, ◌<◌, IsTrue, List, [], ◌∷◌, length, Option, Some, None, Result, Ok, Err}
use Rattle.pfs_event.specs.declared.kind.EventKind.{EventKind}
use Rattle.pfs_event.specs.declared.open.Open.{Open}
use Rattle.pfs_event.specs.declared.nest.Refused.{Refused}
use Rattle.pfs_event.specs.declared.nest.Refused.TheVariants.{WrongOrder, TooDeep, NothingOpen}
use Rattle.pfs_event.specs.StartOrder.{may_start}

-- how many events may be open, and those that are, from the innermost to the outermost
pub record OpenEvents : Type 0 where
  pub depth : ℕ
  pub events : List Open

-- the innermost of the open events
abbrev pub innermost_of : List Open → Option Open
innermost_of [] = None
innermost_of (what ∷ events) = Some what

abbrev pub kind_of : Option Open → Option EventKind
kind_of None = None
kind_of (Some what) = Some what.kind

-- an event of this kind may start now
abbrev pub MayStart : OpenEvents → EventKind → Type 0
MayStart nest kind = IsTrue (may_start kind (kind_of (innermost_of nest.events)))

-- what a start answers and leaves
abbrev pub StartGives : OpenEvents → Open → Result (Unit {0}) Refused → OpenEvents → Type 0
StartGives old what (Ok _) new = MayStart old what.kind × (length old.events < old.depth)
    × (new ≡ record old { events = what ∷ old.events })
StartGives old what (Err WrongOrder) new = (¬ MayStart old what.kind) × (new ≡ old)
StartGives old what (Err TooDeep) new = MayStart old what.kind × (length old.events ≡ old.depth) × (new ≡ old)
StartGives old what (Err NothingOpen) new = ⊥

-- what an end answers and leaves
abbrev pub EndGives : OpenEvents → Result Open Refused → OpenEvents → Type 0
EndGives old (Ok what) new = old ≡ record new { events = what ∷ new.events }
EndGives old (Err WrongOrder) new = ⊥
EndGives old (Err TooDeep) new = ⊥
EndGives old (Err NothingOpen) new = (old.events ≡ []) × (new ≡ old)
