-- The tickets of a report, by all its entries.
use Rattle.std.proofs.Common.{◌≡◌, ℕ, List, [], ◌∷◌, sym, subst, Some, None}
use Rattle.pfs_journal.specs.declared.report.ReportParts.{ReportParts}
use Rattle.pfs_model.specs.EntryPlaces.{Placed}
use Rattle.pfs_check_faults.specs.ReportCases.{AllHave, Case, Findings, entries_of}
use Rattle.pfs_check_faults.specs.RingFaults.{LongRisesAt, TicketsAt}
use Rattle.pfs_check_visits.specs.ReportVisits.{IsAsked, IsFirstLacking}
use Rattle.pfs_check_tickets.specs.TicketRules.{KeepsTickets, LongsAt}
use Rattle.pfs_check_tickets.proofs.RisingLaws.{rises_back}
use Rattle.pfs_check_tickets.proofs.TicketLaws.{tickets_back}

ticketed : (all earlier places : List Placed) → AllHave (LongsAt all) earlier places → AllHave (TicketsAt all) earlier places
ticketed all earlier [] h = tt
ticketed all earlier (p ∷ ps) h = (h.0.ticketed, ticketed all (p ∷ earlier) ps h.1)

rising : (all earlier places : List Placed) → AllHave (LongsAt all) earlier places → AllHave (LongRisesAt all) earlier places
rising all earlier [] h = tt
rising all earlier (p ∷ ps) h = (h.0.rises, rising all (p ∷ earlier) ps h.1)

pub tickets_kept : (found : Findings) (report : ReportParts) (all : List Placed) (knows : List Placed → Type 0) → entries_of found ≡ all
    → IsAsked report (LongsAt (entries_of found)) all knows None → KeepsTickets found
tickets_kept found report all knows e asked = record {
  ticketed = tickets_back (entries_of found) (ticketed (entries_of found) [] (entries_of found) kept);
  risen = rises_back (entries_of found) (rising (entries_of found) [] (entries_of found) kept);
  each = kept;
} where
  kept : AllHave (LongsAt (entries_of found)) [] (entries_of found)
  kept = subst (AllHave (LongsAt (entries_of found)) []) (sym e) asked.0

pub tickets_wrong : (case : Case) (found : Findings) (report : ReportParts) (all : List Placed) (knows : List Placed → Type 0) (line : ℕ)
    → case.report ≡ report → entries_of found ≡ all → IsAsked report (LongsAt (entries_of found)) all knows (Some line)
    → IsFirstLacking case.report (LongsAt (entries_of found)) (entries_of found) line
tickets_wrong case found report all knows line same e asked =
    subst (λ z. IsFirstLacking z (LongsAt (entries_of found)) (entries_of found) line) (sym same)
    (subst (λ z. IsFirstLacking report (LongsAt (entries_of found)) z line) (sym e) asked)
