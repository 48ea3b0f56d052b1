-- Which events count in a summary row, by the journals alone, and what they add up to.
use Rattle.std.specs.Prelude.{ℕ, ◌==◌, Bool, true, ◌&&◌, ◌||◌, List, [], ◌∷◌, length, map, filter, Option, None, is_some}
use Rattle.pfs_conservation.specs.AdministrationFold.{Action, numbered}
use Rattle.pfs_conservation.specs.KindSummaries.{Key, KeyThread, is_all, leads_key, covers_key}
use Rattle.pfs_event.specs.Verdicts.{is_let_through}
use Rattle.pfs_model.specs.EntryAsks.{cell_row}
use Rattle.pfs_model.specs.Contents.{Given, amount_of}
use Rattle.pfs_model.specs.EntryPlaces.{Placed}
use Rattle.pfs_model.specs.Shapes.{counted_slot}
use Rattle.pfs_model.specs.SummaryCounts.{Names, Addition, additions_of, removal_of, stays_counted}
use Rattle.pfs_rows.specs.Tables.{kind_number}
use Rattle.pfs_rows.specs.declared.table.TableKind.{TableKind}
use Rattle.pfs_stat.specs.Stat.{merge_all}
use Rattle.pfs_stat.specs.declared.Stat.{Stat}
use Rattle.pfs_law_conservation.specs.RunEvents.{Ended, all_ended, session_of}

-- What was told up to a phase's end: the ids of each session's names, the actions by their numbers, which of these
-- truncate the summary by digest, the entries of all journals, and what the amounts of events go by.
pub record Past : Type 0 where
  pub names : ℕ → Names
  pub actions : List Action
  pub clears : ℕ → Bool
  pub entries : List Placed
  pub given : Given

-- the session's slot where the event is attributed to the session
abbrev pub own_slot : Ended → Option ℕ
own_slot one = counted_slot one.context.slot one.event.verdict

-- the event's row: that of its cell at its session's slot, and else the global row of its cell
abbrev pub own_row : Ended → ℕ
own_row one = cell_row (own_slot one) one.event.subject.cell

-- an addition of just this event to its row
abbrev pub is_addition_of : Ended → Addition → Bool
is_addition_of one addition =
    (addition.row == own_row one) && ((addition.session == one.session) && (addition.event.index == one.event.index))

abbrev pub removal_behind : List Placed → List Addition → Option ℕ
removal_behind entries [] = None
removal_behind entries (addition ∷ additions) = removal_of entries addition

-- the first action that took the event's row at a version above the one at which the event was added; none where no
-- action did
abbrev pub removal_in : List Placed → Ended → Option ℕ
removal_in entries one = removal_behind entries (filter (is_addition_of one) (additions_of entries))

-- Every event leads to the key of all; one that is attributed leads to its session, and to the names of the account,
-- the user and the host that the session has a place for.
abbrev pub leads_to : (ℕ → Names) → Key → Ended → Bool
leads_to names key one = is_all key || (is_some (own_slot one) && leads_key key (session_of names one))

-- By thread each action covers, so an event no longer counts once its row was taken; by other keys a TRUNCATE of the
-- tables that empty the key's summary does.
abbrev pub covers : TableKind → Key → Action → Bool
covers kind (KeyThread session slot) action = true
covers kind key action = covers_key (kind_number kind) key action

-- no action covers the key that has the number of the event's removal or a later one
abbrev pub stays_in : Past → TableKind → Key → Ended → Bool
stays_in past kind key one =
    stays_counted (λ action. covers kind key (numbered past.actions action)) (length past.actions)
    (removal_in past.entries one)

-- an event that has ended counts in a key's row and one cell: it is let through, its class has the cell, it leads to
-- the key, and no covering action came with its removal or later
abbrev pub counts_at : Past → TableKind → Key → ℕ → Ended → Bool
counts_at past kind key cell one =
    is_let_through one.event.verdict
    && ((one.event.subject.cell == cell) && (leads_to past.names key one && stays_in past kind key one))

-- the events that count there, as they ended
abbrev pub counted_events : Past → TableKind → Key → ℕ → List Ended
counted_events past kind key cell = filter (counts_at past kind key cell) (all_ended past.entries)

-- what they add up to: their number, and the sums, the least and the greatest of their numbers
abbrev pub counted_at : Past → TableKind → Key → ℕ → Stat
counted_at past kind key cell =
    merge_all (map (λ one. amount_of past.given one.session one.event) (counted_events past kind key cell))
