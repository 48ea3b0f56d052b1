-- The lines of a run's journals that change rows of one kind, each with its session, its action and its events.
use Rattle.std.specs.Prelude.{ℕ, Bool, cond, List, [], ◌∷◌, ◌++◌, map}
use Rattle.pfs_conservation.specs.PrintedChanges.{Kind, Adds, Takes, Gives, Tagged}
use Rattle.pfs_event.specs.declared.entry.Entry.{Entry}
use Rattle.pfs_event.specs.declared.entry.Entry.TheVariants as says
use Rattle.pfs_model.specs.Contexts.{brought}
use Rattle.pfs_model.specs.EntryPlaces.{Placed}
use Rattle.pfs_model.specs.declared.lines.Opened.{Opened}
use Rattle.pfs_law_conservation.specs.KindRows.{is_kind_row}
use Rattle.pfs_law_conservation.specs.RunEvents.{event_number}

abbrev pub line_at : Placed → ℕ → ℕ → Kind → List Tagged
line_at place row version kind = record {
  session = place.session;
  action = place.context.action;
  row = row;
  version = version;
  kind = kind;
} ∷ []

-- the events that an addition brings to a row: the one that has just ended, and all that its session held for the row
abbrev pub brought_by : Placed → ℕ → List ℕ
brought_by place row =
    map (λ (event : Opened). event_number place.session event.index) (brought place.context row)

abbrev pub lines_at : Placed → Entry → List Tagged
lines_at place (says.Add row version) = line_at place row version (Adds (brought_by place row))
lines_at place (says.Take row version) = line_at place row version Takes
lines_at place (says.Give row version from) = line_at place row version (Gives from)
lines_at place entry = []

-- the additions, takes and gives of all rows
abbrev pub all_lines : List Placed → List Tagged
all_lines [] = []
all_lines (place ∷ places) = lines_at place place.entry ++ all_lines places

-- and those of rows that pass a test
abbrev pub lines_on : (ℕ → Bool) → List Tagged → List Tagged
lines_on test [] = []
lines_on test (line ∷ lines) = cond (test line.row) (line ∷ []) [] ++ lines_on test lines

-- of the kind's rows
abbrev pub lines_in : (ℕ → Bool) → List Placed → List Tagged
lines_in is_cell places = lines_on (is_kind_row is_cell) (all_lines places)
