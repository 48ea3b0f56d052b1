-- What holds of the events of any lines.
use Rattle.std.specs.Prelude.{ℕ, ◌≡◌, ◌+◌, ◌≤◌, ◌<◌, ◌⊎◌, List, length, map, slice_get, Some, None}
use Rattle.pfs_script.specs.declared.blocks.BlockLine.{BlockLine}
use Rattle.pfs_script.specs.Marks.{mark_of}
use Rattle.pfs_script.specs.Brackets.{Bracket, brackets_of}
use Rattle.pfs_script.specs.Events.{Event, subject_of, line_at, passed_between, numbers_at}

-- an event as a bracket
abbrev pub bracket_of : Event → Bracket
bracket_of event = record { opened = event.opened; kind = event.subject.kind; closed = event.closed }

-- the events are the brackets of these lines, each is of what its opening line says, it closes behind that line, lasts
-- from the clock there to the clock at its closing line, and a statement has the numbers of that line
pub record AreEvents (all : List BlockLine) (events : List Event) : Type 0 where
  pub brackets : map bracket_of events ≡ brackets_of (map mark_of all)
  pub subject : (i : ℕ) (event : Event) → slice_get events i ≡ Some event
      → subject_of (line_at all event.opened) ≡ Some event.subject
  pub inside : (i : ℕ) (event : Event) → slice_get events i ≡ Some event → event.opened < length all
  pub later : (i : ℕ) (event : Event) (closed : ℕ) → slice_get events i ≡ Some event → event.closed ≡ Some closed
      → (event.opened < closed) × (closed < length all)
  pub clock : (i : ℕ) (event : Event) → slice_get events i ≡ Some event
      → event.clock ≡ passed_between all 0 event.opened
  pub lasts : (i : ℕ) (event : Event) (closed : ℕ) → slice_get events i ≡ Some event → event.closed ≡ Some closed
      → (lasted : ℕ) × (event.lasted ≡ Some lasted) × (event.clock + lasted ≡ passed_between all 0 closed)
  pub unclosed : (i : ℕ) (event : Event) → slice_get events i ≡ Some event → event.closed ≡ None
      → event.lasted ≡ None
  pub numbers : (i : ℕ) (event : Event) → slice_get events i ≡ Some event
      → event.numbers ≡ numbers_at all event.subject.kind event.closed
  -- they come in the order of their opening lines
  pub order : (i j : ℕ) (a b : Event) → slice_get events i ≡ Some a → slice_get events j ≡ Some b → i < j
      → a.opened < b.opened
  -- one that closes lies before a later one, or around it
  pub nested : (i j : ℕ) (a b : Event) (closed : ℕ) → slice_get events i ≡ Some a → slice_get events j ≡ Some b
      → i < j → a.closed ≡ Some closed
      → (closed ≤ b.opened) ⊎ ((inner : ℕ) × (b.closed ≡ Some inner) × (inner ≤ closed))
