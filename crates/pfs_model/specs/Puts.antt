-- Where an event that starts or ends is brought: its summary row, its digest's row, and the places of rings that its
-- flags ask for.
use Rattle.std.specs.Prelude.{ℕ, ◌≡◌, ◌+◌, ◌==◌, nat_lt, nat_le, Bool, true, false, ◌&&◌, cond, List, [], ◌∷◌, ◌++◌, length, Option, Some, None}
use Rattle.pfs_event.specs.declared.entry.Entry.{Entry}
use Rattle.pfs_event.specs.declared.entry.Entry.TheVariants as says
use Rattle.pfs_event.specs.Verdicts.{is_let_through}
use Rattle.pfs_model.specs.declared.lines.Opened.{Opened}
use Rattle.pfs_model.specs.Contexts.{subject_of, noted}
use Rattle.pfs_model.specs.EntryAsks.{cell_row, digest_row, is_head}
use Rattle.pfs_model.specs.Shapes.{counted_slot}
use Rattle.pfs_model.specs.EntryPlaces.{Placed, by_session}
use Rattle.pfs_model.specs.SetupFlags.{is_digested, is_offered_current, is_offered_at_end, history_consumer, long_consumer}
use Rattle.pfs_model.specs.Causes.{long_row}
use Rattle.pfs_model.specs.Rings.{ring_number, history_row, history_puts, place_of_start}

-- one entry that is due
pub data Due : Type 0 where
  Adds : ℕ → Due  -- to this row, or held for it
  Puts : ℕ → Due  -- at this place of a ring, or finds it busy
  PutsLong : ℕ → Due  -- in the long history of this kind, or finds its place busy or with a greater ticket

abbrev pub is_paid : Due → Entry → Bool
is_paid (Adds row) (says.Add at version) = at == row
is_paid (Adds row) (says.Held at first second) = at == row
is_paid (Puts row) (says.Ring at version) = at == row
is_paid (Puts row) (says.Busy at first second) = at == row
is_paid (PutsLong kind) (says.Long at version ticket) = at == long_row kind ticket
is_paid (PutsLong kind) (says.Late at ticket greater) = at == long_row kind ticket
is_paid (PutsLong kind) (says.Busy at first second) = nat_le (long_row kind 0) at && nat_lt at (long_row (kind + 1) 0)
is_paid due entry = false

abbrev pub due_if : Bool → Due → List Due
due_if asked due = cond asked (due ∷ []) []

abbrev pub in_slot : Option ℕ → (ℕ → List Due) → List Due
in_slot None dues = []
in_slot (Some slot) dues = dues slot

-- the current place of an event, where it is offered to it; `others` are the events around it
abbrev pub current_due : (ℕ → ℕ → ℕ) → Option ℕ → Opened → List Opened → List Due
current_due flags slot event others =
    in_slot slot (λ own. due_if (is_offered_current flags slot event)
    (Puts (place_of_start own event.subject.kind others)))

-- the place of the session's next history put of the kind: by how many of them were written before
abbrev pub history_place : List Placed → ℕ → ℕ → ℕ → ℕ
history_place earlier session slot kind =
    history_row slot kind (length (history_puts slot kind (by_session session earlier)))

-- the histories of an event that ends, by the versions that its end loaded
abbrev pub history_dues : (ℕ → ℕ → ℕ) → List Placed → Placed → Opened → Option ℕ → Option ℕ → List Due
history_dues flags earlier place event consumers thread =
    in_slot place.context.slot (λ own.
    due_if (is_offered_at_end history_consumer flags place.context.slot event consumers thread)
    (Puts (history_place earlier place.session own (ring_number event.subject.kind)))
    ++ due_if (is_offered_at_end long_consumer flags place.context.slot event consumers thread)
    (PutsLong (ring_number event.subject.kind)))

-- behind the end of an event: nothing where it isn't let through
abbrev pub dues_at_end : (ℕ → ℕ → ℕ) → List Placed → Placed → List Opened → Option ℕ → Option ℕ → List Due
dues_at_end flags earlier place [] consumers thread = []
dues_at_end flags earlier place (event ∷ others) consumers thread =
    cond (is_let_through event.verdict)
    (Adds (cell_row (counted_slot place.context.slot event.verdict) event.subject.cell)
    ∷ (due_if (is_digested flags place.context.slot event) (Adds (digest_row event.subject.digest))
    ++ (current_due flags place.context.slot event others ++ history_dues flags earlier place event consumers thread)))
    []

-- behind a start: `opened` has the event that it starts first
abbrev pub dues_at_start : (ℕ → ℕ → ℕ) → Option ℕ → List Opened → List Due
dues_at_start flags slot [] = []
dues_at_start flags slot (event ∷ others) = current_due flags slot event others

-- the entries behind a start or an end that belong to it: those up to the next entry with which a line or another
-- event begins
abbrev pub behind_it : List Placed → List Entry
behind_it [] = []
behind_it (place ∷ places) = cond (is_head place.entry) [] (place.entry ∷ behind_it places)

-- just these are due, in this order
abbrev pub ArePaid : List Due → List Entry → Type 0
ArePaid [] [] = Unit {0}
ArePaid [] (entry ∷ entries) = ⊥
ArePaid (due ∷ dues) [] = ⊥
ArePaid (due ∷ dues) (entry ∷ entries) = (is_paid due entry ≡ true) × ArePaid dues entries

-- what stands behind a start or an end, with the entries before it
abbrev pub IsBrought : (ℕ → ℕ → ℕ) → List Placed → Placed → Entry → List Entry → Type 0
IsBrought flags earlier place (says.Start event verdict consumers thread class table) behind =
    ArePaid (dues_at_start flags place.context.slot (noted (subject_of place.line) place.context place.entry).opened)
    behind
IsBrought flags earlier place (says.End event last consumers thread) behind =
    ArePaid (dues_at_end flags earlier place place.context.opened consumers thread) behind
IsBrought flags earlier place entry behind = Unit {0}

abbrev pub AreBroughtBehind : (ℕ → ℕ → ℕ) → List Placed → List Placed → Type 0
AreBroughtBehind flags earlier [] = Unit {0}
AreBroughtBehind flags earlier (place ∷ places) =
    IsBrought flags earlier place place.entry (behind_it places) × AreBroughtBehind flags (place ∷ earlier) places

-- Each event is brought just where its flags ask for, in this order: its row, its digest's row, its current place,
-- its history, the long history.
abbrev pub AreBrought : (ℕ → ℕ → ℕ) → List Placed → Type 0
AreBrought flags all = AreBroughtBehind flags [] all
