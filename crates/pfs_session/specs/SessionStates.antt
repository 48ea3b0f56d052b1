-- A session between two steps: where it is connected, its clock, its open events, and what it holds back.
use Rattle.std.specs.Prelude.{ℕ, ◌≡◌, ◌<◌, ◌+◌, ◌*◌, nat_lt, Bool, true, false, ◌&&◌, if◌then◌else◌, List, [], ◌∷◌, replicate, Option, Some, None}
use Rattle.std.specs.List.{slice_index_or}
use Rattle.pfs_admin.specs.declared.admin.Placed.{Placed}
use Rattle.pfs_event.specs.NestingKinds.{nesting_number}
use Rattle.pfs_event.specs.Nests.{OpenEvents}
use Rattle.pfs_event.specs.Verdicts.{is_let_through}
use Rattle.pfs_event.specs.declared.kind.EventKind.{EventKind}
use Rattle.pfs_event.specs.declared.kind.EventKind.TheVariants as kinds
use Rattle.pfs_event.specs.declared.open.Open.{Open}
use Rattle.pfs_event.specs.Logs.{Journal}
use Rattle.pfs_model.specs.Shapes.{is_stage}
use Rattle.pfs_stat.specs.declared.Stat.{Stat}
use Rattle.pfs_session.specs.declared.nexts.Nexts.{Nexts}
use Rattle.pfs_session.specs.declared.opening.Outer.{Outer}
use Rattle.pfs_session.specs.declared.outcomes.LastAction.{LastAction}

-- A session: its number; how many statements may be open one in another; where it is connected; its clock; how many
-- event numbers it has drawn; its open events; the amounts that it holds back, by the number of their cell; how many
-- actions it has made, and the last one of this phase; and the next places of its histories
pub record State : Type 0 where
  pub number : ℕ
  pub stack : ℕ
  pub place : Placed
  pub clock : ℕ
  pub drawn : ℕ
  pub opened : OpenEvents
  pub held : List (Option Stat)
  pub actions : ℕ
  pub last : Option LastAction
  pub nexts : Nexts

-- a session with its journal of this phase
pub record Book : Type 0 where
  pub state : State
  pub journal : Journal

-- connected nowhere
abbrev pub no_place : Placed
no_place = record { thread = None; account = None; user = None; host = None }

-- A session may hold an amount for each cell of its thread, for each global cell, and for each digest row: these have
-- the numbers 0 to 63, 64 to 127, and 128 to 192. Their rows ascend with their numbers.
abbrev pub held_row : ℕ → ℕ → ℕ
held_row slot cell = if nat_lt cell 64 then 129 + 64 * slot + cell else 8257 + cell

abbrev pub held_at : List (Option Stat) → ℕ → Option Stat
held_at held cell = slice_index_or held cell None

abbrev pub nothing_held : List (Option Stat)
nothing_held = replicate 193 None

-- an amount that is held back for a row
pub record Owed : Type 0 where
  pub row : ℕ
  pub amount : Stat

abbrev pub owed_of : ℕ → ℕ → Option Stat → List Owed
owed_of slot cell None = []
owed_of slot cell (Some amount) = record { row = held_row slot cell; amount = amount } ∷ []

-- how a session begins
abbrev pub fresh : ℕ → ℕ → ℕ → State
fresh number stack depth = record {
  number = number;
  stack = stack;
  place = no_place;
  clock = 0;
  drawn = 0;
  opened = record { depth = depth; events = [] };
  held = nothing_held;
  actions = 0;
  last = None;
  nexts = record { waits = 0; stages = 0; statements = 0; transactions = 0 };
}

abbrev pub one_if : Bool → ℕ
one_if true = 1
one_if false = 0

-- how many let-through events of such a kind are open
abbrev pub count_open : (EventKind → Bool) → List Open → ℕ
count_open test [] = 0
count_open test (what ∷ events) = one_if (is_let_through what.verdict && test what.kind) + count_open test events

-- the next place of a kind's history
abbrev pub next_of : EventKind → Nexts → ℕ
next_of kinds.Wait nexts = nexts.waits
next_of kinds.Stage nexts = nexts.stages
next_of kinds.Statement nexts = nexts.statements
next_of kinds.Transaction nexts = nexts.transactions

-- what an event lies in that starts where these are open: the innermost that is let through
abbrev pub around : List Open → Outer
around [] = record { nesting = 0; parent = 0 }
around (what ∷ events) =
    if is_let_through what.verdict
    then record { nesting = nesting_number what.kind; parent = what.event.number }
    else around events

-- each open event lies in the innermost let-through one of those around it
abbrev pub AreAround : List Open → Type 0
AreAround [] = Unit {0}
AreAround (what ∷ events) =
    (record { nesting = what.event.nesting; parent = what.event.parent } ≡ around events) × AreAround events

-- no event is let through
abbrev pub AreSilent : List Open → Type 0
AreSilent [] = Unit {0}
AreSilent (what ∷ events) = (is_let_through what.verdict ≡ false) × AreSilent events

-- a session without a thread slot lets no event through
abbrev pub AreSeated : Option ℕ → List Open → Type 0
AreSeated None events = AreSilent events
AreSeated (Some slot) events = slot < 32

-- a session without a thread slot holds nothing
abbrev pub AreHeldFor : Option ℕ → List (Option Stat) → Type 0
AreHeldFor None held = held ≡ nothing_held
AreHeldFor (Some slot) held = Unit {0}

-- the open events without the innermost one, where that is a stage
abbrev pub without_stage : List Open → List Open
without_stage [] = []
without_stage (what ∷ events) = if is_stage what.kind then events else what ∷ events
