-- Where a session's events are put: the current place, the history, the long history.
use Rattle.std.specs.Prelude.{ℕ, ◌≡◌, ◌<◌, ◌+◌, ◌%◌, Bool, true, false, ◌&&◌, List, [], ◌∷◌, Option, Some, None, IfSome}
use Rattle.pfs_consumers.specs.Tree.{acts_of}
use Rattle.pfs_consumers.specs.declared.Consumer.{Consumer}
use Rattle.pfs_event.specs.declared.entry.Entry.{Entry}
use Rattle.pfs_event.specs.declared.event.Event.{Event}
use Rattle.pfs_event.specs.declared.kind.EventKind.{EventKind}
use Rattle.pfs_event.specs.declared.kind.EventKind.TheVariants as kinds
use Rattle.pfs_event.specs.declared.open.Open.{Open}
use Rattle.pfs_event.specs.declared.verdict.Verdict.{Verdict}
use Rattle.pfs_levels.specs.Calls.{Call, Opening, Rings, Draws}
use Rattle.pfs_event.specs.Logs.{Journal}
use Rattle.pfs_levels.specs.Moves.{Did}
use Rattle.pfs_levels.specs.declared.answers.RingPut.{RingPut}
use Rattle.pfs_model.specs.Causes.{long_row}
use Rattle.pfs_model.specs.Rings.{ring_number, current_row, history_row}
use Rattle.pfs_model.specs.SetupFlags.{is_wait, is_statement, is_attributed, has_history, current_consumer}
use Rattle.pfs_model.specs.declared.lines.Subject.{Subject}
use Rattle.pfs_rings.specs.Offers.{Says, offered, put_entry}
use Rattle.pfs_rings.specs.RingPlaces.{IsRing, depths}
use Rattle.pfs_rings.specs.declared.puts.Put.{Put}
use Rattle.pfs_rings.specs.declared.puts.Put.TheVariants.{Done, Busy, Late}
use Rattle.pfs_rings.specs.declared.rings.Ring.{Ring}
use Rattle.pfs_rings.specs.declared.rings.Ring.TheVariants.{Current, History, Long}
use Rattle.pfs_session.specs.SessionStates.{count_open}
use Rattle.pfs_session.specs.declared.nexts.Nexts.{Nexts}
use Rattle.pfs_session.specs.declared.setup.Setup.{Setup}

abbrev pub AreNexts : Nexts → Type 0
AreNexts nexts = (nexts.waits < 10) × (nexts.stages < 10) × (nexts.statements < 10) × (nexts.transactions < 10)

-- each place of a history once, and then from the first one on
abbrev pub moved : EventKind → Nexts → Nexts
moved kinds.Wait nexts = record nexts { waits = (nexts.waits + 1) % 10 }
moved kinds.Stage nexts = record nexts { stages = (nexts.stages + 1) % 10 }
moved kinds.Statement nexts = record nexts { statements = (nexts.statements + 1) % 10 }
moved kinds.Transaction nexts = record nexts { transactions = (nexts.transactions + 1) % 10 }

-- only an event that was written takes a place
abbrev pub moved_by : EventKind → Option Put → Nexts → Nexts
moved_by kind None nexts = nexts
moved_by kind (Some (Done row version ticket)) nexts = moved kind nexts
moved_by kind (Some (Busy row first second)) nexts = nexts
moved_by kind (Some (Late row ticket greater)) nexts = nexts

-- one call of the store was made for the event, behind these, and it says what became of it
pub record PutAt (row : ℕ) (ticket : Option ℕ) (drawn : List Call) (event : Event) (put : Put) (calls : List Call) : Type
    0 where
  pub answer : RingPut
  pub says : Says row ticket answer put
  pub calls_are : calls ≡ Rings row (offered event ticket) answer ∷ drawn

-- in the long history at the place of the ticket that was drawn before
pub record PutLong (kind : ℕ) (event : Event) (put : Put) (calls : List Call) : Type 0 where
  pub ticket : ℕ
  pub at : PutAt (long_row kind ticket) (Some ticket) (Draws kind ticket ∷ []) event put calls

abbrev pub PutTo : Ring → Event → Put → List Call → Type 0
PutTo (Current thread kind depth) event put calls = PutAt (current_row thread kind depth) None [] event put calls
PutTo (History thread kind place) event put calls =
    PutAt (history_row thread (ring_number kind) place) None [] event put calls
PutTo (Long kind) event put calls = PutLong (ring_number kind) event put calls

-- the row that a put names
abbrev pub put_row : Put → ℕ
put_row (Done row version ticket) = row
put_row (Busy row first second) = row
put_row (Late row ticket greater) = row

-- which is a place of this ring
abbrev pub IsPutOf : Ring → Put → Type 0
IsPutOf (Current thread kind depth) put =
    IsRing (Current thread kind depth) × (put_row put ≡ current_row thread kind depth)
IsPutOf (History thread kind place) put =
    IsRing (History thread kind place) × (put_row put ≡ history_row thread (ring_number kind) place)
IsPutOf (Long kind) put = (ticket : ℕ) × (put_row put ≡ long_row (ring_number kind) ticket)

-- what became of the three puts of an event that ended: each names a place of its own ring, and no other's
pub record StandInRings (current history long : Option Put) : Type 0 where
  pub current_at : IfSome current
      (λ put. (thread : ℕ) × (kind : EventKind) × (depth : ℕ) × IsPutOf (Current thread kind depth) put)
  pub history_at : IfSome history
      (λ put. (thread : ℕ) × (kind : EventKind) × (place : ℕ) × IsPutOf (History thread kind place) put)
  pub long_at : IfSome long (λ put. (kind : EventKind) × IsPutOf (Long kind) put)

-- just where the event is offered there
abbrev pub PutIf : Bool → Ring → Event → Option Put → List Call → Type 0
PutIf false ring event put calls = (put ≡ None) × (calls ≡ [])
PutIf true ring event None calls = ⊥
PutIf true ring event (Some put) calls = PutTo ring event put calls

abbrev pub put_entries : Option Put → List Entry
put_entries None = []
put_entries (Some put) = put_entry put ∷ []

-- an event that was offered to a ring, or wasn't
pub record HasPut (due : Bool) (ring : Ring) (event : Event) (put : Option Put) (old new : Journal) (was now : Opening
    → List Call → Type 0) : Type 0 where
  pub calls : List Call
  pub put_is : PutIf due ring event put calls
  pub did : Did calls (put_entries put) old new was now

-- to the current place of its depth: a session without a slot has none
abbrev pub PutIn : Option ℕ → Open → ℕ → Event → Option Put → List Call → Type 0
PutIn None what depth event put calls = (put ≡ None) × (calls ≡ [])
PutIn (Some slot) what depth event put calls = PutIf what.placed (Current slot what.kind depth) event put calls

pub record HasPutIn (slot : Option ℕ) (what : Open) (depth : ℕ) (put : Option Put) (old new : Journal) (was now : Opening
    → List Call → Type 0) : Type 0 where
  pub calls : List Call
  pub put_is : PutIn slot what depth what.event put calls
  pub did : Did calls (put_entries put) old new was now

-- an event is offered to its current place, then and again at its end, where it is attributed and the consumer of its
-- kind acts by what its start loaded
abbrev pub is_placed_by : Subject → Verdict → Option Setup → Bool
is_placed_by subject verdict None = false
is_placed_by subject verdict (Some seen) =
    is_attributed verdict && acts_of seen.consumers.flags (current_consumer subject.kind)

-- and at its end to a history where that one's consumer acts, and the thread's HISTORY is YES, by what its end loaded
abbrev pub goes_on : Bool → Consumer → ℕ → ℕ → Bool
goes_on placed ring consumers thread = placed && acts_of consumers ring && has_history thread

-- how many let-through events of the kind lie around an event; the depth of a stage or a transaction is no matter
abbrev pub depth_of : EventKind → List Open → ℕ
depth_of kinds.Wait events = count_open is_wait events
depth_of kinds.Statement events = count_open is_statement events
depth_of kinds.Stage events = 0
depth_of kinds.Transaction events = 0

-- an open event that is offered to its current place has one
abbrev pub ArePlaced : List Open → Type 0
ArePlaced [] = Unit {0}
ArePlaced (what ∷ events) = (what.placed ≡ true → depth_of what.kind events < depths what.kind) × ArePlaced events
