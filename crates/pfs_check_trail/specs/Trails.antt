-- What a trail keeps of what a session's entries tell: all but the events that are held, and for which row.
use Rattle.std.specs.Prelude.{ℕ, ◌≡◌, List, Option, []}
use Rattle.pfs_event.specs.declared.entry.Entry.{Entry}
use Rattle.pfs_event.specs.declared.entry.Entry.TheVariants as says
use Rattle.pfs_model.specs.declared.lines.Opened.{Opened}
use Rattle.pfs_model.specs.declared.lines.Subject.{Subject}
use Rattle.pfs_model.specs.Contexts.{Context, fresh, with_opened}

abbrev pub trimmed : Context → Context
trimmed context = record context { waiting = [] }

-- a trail keeps what the entries of a session tell
abbrev pub IsTrailOf : Context → Context → Type 0
IsTrailOf context trail = trimmed trail ≡ trimmed context

-- what a shape goes by: the printed slot, the open events, and the rows for which something is held
abbrev pub shaping : Option ℕ → List Opened → List ℕ → Context
shaping slot opened held = record fresh { slot = slot; opened = opened; held = held }

-- the open events behind the start of an event, the session's next after so many; another entry opens none
abbrev pub opened_behind : Option Subject → ℕ → List Opened → Entry → List Opened
opened_behind subject index opened (says.Start event verdict consumers thread class table) =
    with_opened subject (λ s. record {
      subject = s;
      verdict = verdict;
      index = index;
      number = event;
      consumers = consumers;
      thread = thread;
      class = class;
      table = table;
    }) opened
opened_behind subject index opened _ = opened
