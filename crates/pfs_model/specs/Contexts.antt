-- What a session's entries so far tell of it.
use Rattle.std.specs.Prelude.{ℕ, ◌+◌, ◌==◌, cond, List, [], ◌∷◌, ◌++◌, drop, Option, Some, None}
use Rattle.std.specs.Ordering.{nat_cmp}
use Rattle.std.specs.BTreeMap.{is_at}
use Rattle.std.specs.BTreeSet.{insert_key}
use Rattle.std.specs.Set.{remove_key}
use Rattle.pfs_event.specs.declared.entry.Entry.{Entry}
use Rattle.pfs_event.specs.declared.entry.Entry.TheVariants as says
use Rattle.pfs_model.specs.declared.lines.Line.{Line}
use Rattle.pfs_model.specs.declared.lines.Line.TheVariants as lines
use Rattle.pfs_model.specs.declared.lines.Opened.{Opened}
use Rattle.pfs_model.specs.declared.lines.Subject.{Subject}
use Rattle.pfs_event.specs.Verdicts.{is_let_through}

-- an event that is held for a row
pub record Waiting : Type 0 where
  pub row : ℕ
  pub event : Opened

-- What the entries tell: the printed places of the session; its open events, the innermost first; the rows for which
-- something is held, ascending, and what is held for them, the last first; how many events it has started, and how
-- many event numbers it has drawn; its last action that has ended; and of the line at hand: the event that ended
-- last, its action (0 is none), and the last take of that action, its row and its version.
pub record Context : Type 0 where
  pub slot : Option ℕ
  pub account : Option ℕ
  pub user : Option ℕ
  pub host : Option ℕ
  pub opened : List Opened
  pub held : List ℕ
  pub waiting : List Waiting
  pub begun : ℕ
  pub drawn : ℕ
  pub done : ℕ
  pub ended : Option Opened
  pub action : ℕ
  pub source : Option ℕ
  pub source_version : ℕ

abbrev pub fresh : Context
fresh = record {
  slot = None;
  account = None;
  user = None;
  host = None;
  opened = [];
  held = [];
  waiting = [];
  begun = 0;
  drawn = 0;
  done = 0;
  ended = None;
  action = 0;
  source = None;
  source_version = 0;
}

abbrev pub with_row : ℕ → List ℕ → List ℕ
with_row row rows = insert_key nat_cmp rows row

abbrev pub without_row : ℕ → List ℕ → List ℕ
without_row row rows = remove_key (is_at (nat_cmp row)) rows

-- what is held for this row, and for the others
abbrev pub held_for : ℕ → List Waiting → List Opened
held_for row [] = []
held_for row (one ∷ others) = cond (one.row == row) (one.event ∷ []) [] ++ held_for row others

abbrev pub held_else : ℕ → List Waiting → List Waiting
held_else row [] = []
held_else row (one ∷ others) = cond (one.row == row) [] (one ∷ []) ++ held_else row others

abbrev pub own_event : Option Opened → List Opened
own_event None = []
own_event (Some event) = event ∷ []

abbrev pub own_wait : ℕ → Option Opened → List Waiting
own_wait row None = []
own_wait row (Some event) = record { row = row; event = event } ∷ []

-- the events that an addition to a row brings: the one that has just ended, and all that was held for the row
abbrev pub brought : Context → ℕ → List Opened
brought context row = own_event context.ended ++ held_for row context.waiting

abbrev pub first_of : List Opened → Option Opened
first_of [] = None
first_of (event ∷ events) = Some event

abbrev pub subject_of : Line → Option Subject
subject_of (lines.Start subject) = Some subject
subject_of (lines.Stage subject) = Some subject
subject_of lines.Connect = None
subject_of lines.StageEnd = None
subject_of lines.End = None
subject_of lines.Spend = None
subject_of lines.Change = None
subject_of lines.Quit = None
subject_of lines.Show = None
subject_of lines.Query = None
subject_of (lines.Refused error) = None
subject_of lines.Close = None

-- the open events behind a start, where the line starts something
abbrev pub with_opened : Option Subject → (Subject → Opened) → List Opened → List Opened
with_opened None event others = others
with_opened (Some subject) event others = event subject ∷ others

-- behind an entry of a line that starts this
abbrev pub noted : Option Subject → Context → Entry → Context
noted subject context (says.Connect action thread account user host) = record context {
  slot = thread;
  account = account;
  user = user;
  host = host;
  action = action;
}
noted subject context (says.Start event verdict consumers thread class table) = record context {
  opened = with_opened subject (λ s. record {
    subject = s;
    verdict = verdict;
    index = context.begun;
    number = event;
    consumers = consumers;
    thread = thread;
    class = class;
    table = table;
  }) context.opened;
  begun = context.begun + 1;
  ended = None;
  drawn = context.drawn + cond (is_let_through verdict) 1 0;
}
noted subject context (says.End event last consumers thread) = record context {
  opened = drop 1 context.opened;
  ended = first_of context.opened;
}
noted subject context (says.Held row first second) = record context {
  held = with_row row context.held;
  waiting = own_wait row context.ended ++ context.waiting;
}
noted subject context (says.Add row version) = record context {
  held = without_row row context.held;
  waiting = held_else row context.waiting;
}
noted subject context says.Settle = record context { ended = None }
noted subject context (says.Act action) = record context { action = action }
noted subject context (says.Take row version) = record context { source = Some row; source_version = version }
noted subject context _ = context

-- a new line: what the line before did has ended
abbrev pub turned : Context → Context
turned context = record context {
  done = cond (context.action == 0) context.done context.action;
  ended = None;
  action = 0;
  source = None;
  source_version = 0;
}

abbrev pub after_entries : Option Subject → Context → List Entry → Context
after_entries subject context [] = context
after_entries subject context (entry ∷ entries) = after_entries subject (noted subject context entry) entries

abbrev pub after : Context → Line → List Entry → Context
after context line entries = after_entries (subject_of line) (turned context) entries
