-- What it means that the tickets of a report were asked.
use Rattle.std.specs.Prelude.{ℕ, ◌<◌, List, []}
use Rattle.pfs_model.specs.EntryPlaces.{Placed}
use Rattle.pfs_model.specs.Rings.{AreTickets, LongRises}
use Rattle.pfs_check_faults.specs.ReportCases.{AllHave, Case, Findings, entries_of}
use Rattle.pfs_check_faults.specs.RingFaults.{LongRisesAt, TicketsAt}
use Rattle.pfs_check_visits.specs.ReportVisits.{IsFirstLacking}
use Rattle.pfs_check_tickets.specs.declared.judging.TicketRule.{TicketRule}
use Rattle.pfs_check_tickets.specs.declared.judging.TicketRule.TheVariants.{Kept, Wrong}

-- what is asked of one entry
pub record LongsAt (all earlier : List Placed) (place : Placed) : Type 0 where
  pub ticketed : TicketsAt all earlier place
  pub rises : LongRisesAt all earlier place

-- The tickets of each kind in each phase are right, and no greater one is replaced; and so of each entry.
pub record KeepsTickets (found : Findings) : Type 0 where
  pub ticketed : (phase kind : ℕ) → kind < 4 → AreTickets (entries_of found) phase kind
  pub risen : LongRises (entries_of found)
  pub each : AllHave (LongsAt (entries_of found)) [] (entries_of found)

-- So it is, or this is the first line at which it isn't.
abbrev pub AreTicketsJudged : Case → Findings → TicketRule → Type 0
AreTicketsJudged case found Kept = KeepsTickets found
AreTicketsJudged case found (Wrong line) =
    IsFirstLacking case.report (LongsAt (entries_of found)) (entries_of found) line

-- Where the tickets of each put are right, those of all kinds and phases are.
abbrev pub TicketsKept : Type 0
TicketsKept = (all : List Placed) → AllHave (TicketsAt all) [] all
    → (phase kind : ℕ) → kind < 4 → AreTickets all phase kind

-- Where each ticket is above the one right before it at its row, none is put over a greater one.
abbrev pub RisesKept : Type 0
RisesKept = (all : List Placed) → AllHave (LongRisesAt all) [] all → LongRises all
