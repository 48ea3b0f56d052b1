-- The changes that entries make, and which of them can be known.
use Rattle.std.specs.Prelude.{ℕ, ◌≡◌, ◌≢◌, false, List, [], Option, Some, None}
use Rattle.pfs_event.specs.declared.entry.Entry.{Entry}
use Rattle.pfs_event.specs.declared.entry.Entry.TheVariants as says
use Rattle.pfs_model.specs.declared.changes.Change.{Change}
use Rattle.pfs_model.specs.declared.lines.Opened.{Opened}
use Rattle.pfs_model.specs.Chains.{row_change}
use Rattle.pfs_model.specs.Contents.{Given, event_at, written_at}
use Rattle.pfs_model.specs.Contexts.{first_of}
use Rattle.pfs_model.specs.EntryAsks.{is_head}
use Rattle.pfs_model.specs.EntryPlaces.{Placed}
use Rattle.pfs_law_contexts.specs.TakenSources.{in_action, source_of}
use Rattle.pfs_check_amounts.specs.EventTerms.{AreWords}
use Rattle.pfs_check_contents.specs.declared.changes.Effect.{Effect}
use Rattle.pfs_check_contents.specs.declared.changes.Effect.TheVariants as effects
use Rattle.pfs_check_contents.specs.HeldEvents.{waiting_in}
use Rattle.pfs_check_contents.specs.PlacedChanges.{IsChangeOf}
use Rattle.pfs_check_notes.specs.SessionNotes.{AreNotesOf}
use Rattle.pfs_check_notes.specs.declared.notes.SessionNotes.{SessionNotes}
use Rattle.pfs_check_made.specs.declared.making.Here.{Here}
use Rattle.pfs_check_made.specs.declared.making.Made.{Made}
use Rattle.pfs_check_made.specs.declared.making.Made.TheVariants.{Nothing, Changed, Unknown}

abbrev pub changed_to : ℕ → ℕ → ℕ → Effect → Made
changed_to row version action effect =
    Changed (record { row = row; version = version; action = action; effect = effect })

abbrev pub put_to : ℕ → ℕ → ℕ → Option (List ℕ) → Made
put_to row version action None = Unknown
put_to row version action (Some words) = changed_to row version action (effects.Put words)

-- where an entry stands
pub record IsAt (place : Placed) (here : Here) : Type 0 where
  pub session : place.session ≡ here.session
  pub action : place.context.action ≡ here.action
  pub drawn : place.context.drawn ≡ here.drawn
  pub innermost : first_of place.context.opened ≡ here.innermost

-- the event that has just ended, at an entry with which no line begins
abbrev pub IsEndedAt : Placed → Option Opened → Type 0
IsEndedAt place ended = is_head place.entry ≡ false → ended ≡ place.context.ended

-- a put writes an event, in words of 64 bits
pub record IsPutKnown (given : Given) (place : Placed) (ticket : Option ℕ) : Type 0 where
  pub event : written_at place.context ≢ None
  pub words : AreWords (event_at given place place.context ticket)

abbrev pub IsPutTold : Given → Placed → Option ℕ → Option (List ℕ) → Type 0
IsPutTold given place ticket None = IsPutKnown given place ticket → ⊥
IsPutTold given place ticket (Some words) = words ≡ event_at given place place.context ticket

-- What an entry makes can be known: a gift is of its action's last take, a tag has words, and a put writes
-- an event.
abbrev pub IsKnownIn : Given → Placed → Entry → Type 0
IsKnownIn given place (says.Give row version from) = place.context.source ≡ Some from
IsKnownIn given place (says.Tag row version) = given.info_words place.context.action row ≢ []
IsKnownIn given place (says.Ring row version) = IsPutKnown given place None
IsKnownIn given place (says.Long row version ticket) = IsPutKnown given place (Some ticket)
IsKnownIn given place _ = Unit {0}

abbrev pub IsMade : Given → Placed → Made → Type 0
IsMade given place Nothing = row_change place.entry ≡ []
IsMade given place (Changed one) = IsChangeOf given place one
IsMade given place Unknown = IsKnownIn given place place.entry → ⊥

-- what is known of an entry with which no line begins
pub record IsNotedAt (earlier : List Placed) (place : Placed) (notes : SessionNotes) : Type 0 where
  pub taken : Option Change
  pub notes_are : is_head place.entry ≡ false → AreNotesOf place.context taken notes
  pub source : source_of place.context ≡ in_action place.context.action taken
  pub waiting : place.context.waiting ≡ waiting_in earlier place.session

abbrev pub IsMadeTold : Given → List Placed → Placed → SessionNotes → Made → Type 0
IsMadeTold given earlier place notes made = IsNotedAt earlier place notes → IsMade given place made
