-- From a session's entries to tagged lines: with the number of its last action, and the events that it holds for each
-- row.
use Rattle.std.specs.Prelude.{ℕ, ◌+◌, ◌==◌, ◌&&◌, cond, Bool, false, List, [], ◌∷◌, ◌++◌, Option, Some, None}
use Rattle.pfs_conservation.specs.PrintedChanges.{Adds, Takes, Gives, Tagged}

pub data Entry : Type 0 where
  Acts : ℕ → Entry  -- a connect or another administration line, with its number
  Ends : ℕ → Entry  -- an event ends
  Add : ℕ → ℕ → Entry  -- row and version
  Held : ℕ → Entry  -- for this row
  Settle : Entry
  Take : ℕ → ℕ → Entry
  Give : ℕ → ℕ → ℕ → Entry  -- row, version, and the row that was taken
  Others : Entry

-- an event that is held for a row
pub record Hold : Type 0 where
  pub row : ℕ
  pub event : ℕ

pub record Writer : Type 0 where
  pub session : ℕ
  pub action : ℕ
  pub event : Option ℕ  -- the event that an addition is of; none while held events are settled
  pub held : List Hold

abbrev pub held_for : ℕ → List Hold → List ℕ
held_for row [] = []
held_for row (h ∷ hs) = cond (h.row == row) (h.event ∷ []) [] ++ held_for row hs

abbrev pub held_else : ℕ → List Hold → List Hold
held_else row [] = []
held_else row (h ∷ hs) = cond (h.row == row) [] (h ∷ []) ++ held_else row hs

abbrev pub own_event : Option ℕ → List ℕ
own_event None = []
own_event (Some event) = event ∷ []

abbrev pub own_hold : Option ℕ → ℕ → List Hold
own_hold None row = []
own_hold (Some event) row = record { row = row; event = event } ∷ []

abbrev pub written : Writer → Entry → Writer
written w (Acts action) = record w { action = action }
written w (Ends event) = record w { event = Some event }
written w (Add row version) = record w { held = held_else row w.held }
written w (Held row) = record w { held = own_hold w.event row ++ w.held }
written w Settle = record w { event = None }
written w entry = w

-- the line of an entry: an addition is of its own event and of all that was held for the row
abbrev pub line_at : Writer → Entry → List Tagged
line_at w (Add row version) = record {
  session = w.session;
  action = 0;
  row = row;
  version = version;
  kind = Adds (own_event w.event ++ held_for row w.held);
} ∷ []
line_at w (Take row version) = record {
  session = w.session;
  action = w.action;
  row = row;
  version = version;
  kind = Takes;
} ∷ []
line_at w (Give row version from) = record {
  session = w.session;
  action = w.action;
  row = row;
  version = version;
  kind = Gives from;
} ∷ []
line_at w entry = []

abbrev pub lines_of : Writer → List Entry → List Tagged
lines_of w [] = []
lines_of w (entry ∷ entries) = line_at w entry ++ lines_of (written w entry) entries

abbrev pub written_all : Writer → List Entry → Writer
written_all w [] = w
written_all w (entry ∷ entries) = written_all (written w entry) entries

-- how often an event is held for a row
abbrev pub times_held : ℕ → ℕ → List Hold → ℕ
times_held event row [] = 0
times_held event row (h ∷ hs) = cond ((h.row == row) && (h.event == event)) 1 0 + times_held event row hs

-- how often the entries add or hold an event for a row as it ends
abbrev pub is_event : ℕ → Option ℕ → Bool
is_event event None = false
is_event event (Some other) = other == event

abbrev pub offers : ℕ → ℕ → Option ℕ → Entry → ℕ
offers event row now (Add at version) = cond ((at == row) && is_event event now) 1 0
offers event row now (Held at) = cond ((at == row) && is_event event now) 1 0
offers event row now entry = 0

abbrev pub times_offered : ℕ → ℕ → Writer → List Entry → ℕ
times_offered event row w [] = 0
times_offered event row w (entry ∷ entries) =
    offers event row w.event entry + times_offered event row (written w entry) entries
