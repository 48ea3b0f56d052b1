-- What is due of an event, as it is kept while its entries are read.
use Rattle.std.specs.Prelude.{ℕ, ◌≡◌, List, [], ◌∷◌, ◌++◌, Option, Some, None}
use Rattle.pfs_event.specs.declared.entry.Entry.{Entry}
use Rattle.pfs_event.specs.declared.entry.Entry.TheVariants as says
use Rattle.pfs_event.specs.declared.kind.EventKind.{EventKind}
use Rattle.pfs_event.specs.declared.kind.EventKind.TheVariants as kinds
use Rattle.pfs_model.specs.declared.lines.Opened.{Opened}
use Rattle.pfs_model.specs.declared.lines.Subject.{Subject}
use Rattle.pfs_model.specs.Puts.{Due, Adds, Puts, PutsLong}
use Rattle.pfs_model.specs.Rings.{current_row, place_of_start}
use Rattle.pfs_check_dues.specs.OwedPuts.{Left, Nothing, Owed}
use Rattle.pfs_check_brought.specs.declared.dues.FirstDue.{FirstDue}
use Rattle.pfs_check_brought.specs.declared.dues.KeptDue.{KeptDue}
use Rattle.pfs_check_brought.specs.declared.dues.KeptDue.TheVariants as kept
use Rattle.pfs_check_brought.specs.declared.dues.KeptDues.{KeptDues}

-- as the model says it
abbrev pub due_of : KeptDue → Due
due_of (kept.Adds row) = Adds row
due_of (kept.Puts row) = Puts row
due_of (kept.PutsLong kind) = PutsLong kind

-- one, where it is asked for
abbrev pub due_where : (ℕ → Due) → Option ℕ → List Due
due_where due None = []
due_where due (Some number) = due number ∷ []

-- all of an event, in the order in which they are paid
abbrev pub dues_of : KeptDues → List Due
dues_of dues =
    due_where Adds dues.cell
    ++ (due_where Adds dues.digest
    ++ (due_where Puts dues.current ++ (due_where Puts dues.history ++ due_where PutsLong dues.long)))

-- what is left of them; nothing is asked of what belongs to no event
abbrev pub owed_of : Option KeptDues → Owed
owed_of None = Nothing
owed_of (Some dues) = Left (dues_of dues)

-- the first, and those behind it
abbrev pub AreSplit : List Due → Option FirstDue → Type 0
AreSplit dues None = dues ≡ []
AreSplit dues (Some first) = dues ≡ due_of first.due ∷ dues_of first.rest

-- the depth of an event of a kind, where so many let-through statements and waits stand around it
abbrev pub depth_by : EventKind → ℕ → ℕ → ℕ
depth_by kinds.Wait statements waits = waits
depth_by kinds.Statement statements waits = statements
depth_by kinds.Stage statements waits = 0
depth_by kinds.Transaction statements waits = 0

-- At this depth an event of the kind has its current place, with these events around it.
abbrev pub IsDepth : EventKind → List Opened → ℕ → Type 0
IsDepth kind others depth = (slot : ℕ) → current_row slot kind depth ≡ place_of_start slot kind others

-- the event that a start begins, where its line starts one; of how many it is the next isn't told
abbrev pub started_by : Option Subject → Entry → Option Opened
started_by (Some subject) (says.Start event verdict consumers thread class table) = Some (record {
  subject = subject;
  verdict = verdict;
  index = 0;
  number = event;
  consumers = consumers;
  thread = thread;
  class = class;
  table = table;
})
started_by subject entry = None

abbrev pub opened_behind : Option Opened → List Opened → List Opened
opened_behind None opened = opened
opened_behind (Some event) opened = event ∷ opened
