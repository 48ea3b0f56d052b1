-- What a put does: it offers the event's words to one place, and says what became of them.
use Rattle.std.specs.Prelude.{ℕ, ◌≡◌, ◌+◌, ◌<◌, List, [], ◌∷◌, Option, Some, None}
use Rattle.pfs_event.specs.declared.entry.Entry.{Entry}
use Rattle.pfs_event.specs.declared.entry.Entry.TheVariants as says
use Rattle.pfs_event.specs.declared.event.Event.{Event}
use Rattle.pfs_event.specs.EventWords.{words_of}
use Rattle.pfs_levels.specs.Calls.{Call, Opening, Goes, Rings, Draws}
use Rattle.pfs_levels.specs.declared.answers.RingPut.{RingPut}
use Rattle.pfs_levels.specs.declared.answers.RingPut.TheVariants as told
use Rattle.pfs_model.specs.Causes.{long_row}
use Rattle.pfs_model.specs.Rings.{ring_number, current_row, history_row}
use Rattle.pfs_rings.specs.declared.puts.Put.{Put}
use Rattle.pfs_rings.specs.declared.puts.Put.TheVariants.{Done, Busy, Late}
use Rattle.pfs_rings.specs.declared.rings.Ring.{Ring}
use Rattle.pfs_rings.specs.declared.rings.Ring.TheVariants.{Current, History, Long}

-- the words of an event with its ticket: in the long history one more than that, elsewhere 0
abbrev pub ticket_word : Option ℕ → ℕ
ticket_word None = 0
ticket_word (Some ticket) = ticket + 1

abbrev pub offered : Event → Option ℕ → List ℕ
offered event ticket = words_of (record event { ticket = ticket_word ticket })

-- what the store answered is what the put says. A place of a thread is never too late, and one of the long history is
-- where it holds a greater ticket
abbrev pub Says : ℕ → Option ℕ → RingPut → Put → Type 0
Says row ticket (told.Done version) put = put ≡ Done row version ticket
Says row ticket (told.Busy first second) put = put ≡ Busy row first second
Says row None (told.Late greater version) put = ⊥
Says row (Some ticket) (told.Late greater version) put = (put ≡ Late row ticket greater) × (ticket < greater)

-- the event was offered to this row, behind these calls
pub record IsOffered (row : ℕ) (ticket : Option ℕ) (drawn : List Call) (event : Event) (put : Put) (was now : Opening
    → List Call → Type 0) : Type 0 where
  pub answer : RingPut
  pub says : Says row ticket answer put
  pub calls : Goes was now (Rings row (offered event ticket) answer ∷ drawn)

-- a put to the long history draws the next ticket of the kind, and goes to the place of that
pub record IsOfferedLong (kind : ℕ) (event : Event) (put : Put) (was now : Opening → List Call → Type 0) : Type 0 where
  pub ticket : ℕ
  pub offered : IsOffered (long_row kind ticket) (Some ticket) (Draws kind ticket ∷ []) event put was now

abbrev pub Offers : Ring → Event → Put → (Opening → List Call → Type 0) → (Opening → List Call → Type 0) → Type 0
Offers (Current thread kind depth) event put was now =
    IsOffered (current_row thread kind depth) None [] event put was now
Offers (History thread kind place) event put was now =
    IsOffered (history_row thread (ring_number kind) place) None [] event put was now
Offers (Long kind) event put was now = IsOfferedLong (ring_number kind) event put was now

-- the journal's entry of a put
abbrev pub put_entry : Put → Entry
put_entry (Done row version None) = says.Ring row version
put_entry (Done row version (Some ticket)) = says.Long row version ticket
put_entry (Busy row first second) = says.Busy row first second
put_entry (Late row ticket greater) = says.Late row ticket greater
