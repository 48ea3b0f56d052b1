-- The ninth rule by its parts.
use Rattle.std.proofs.Common.{◌≡◌, ℕ, zero, suc, ◌<◌, inl, inr, List, [], ◌∷◌, Option, Some, None, sym, ◌∙◌, subst, arith}
use Rattle.std.specs.Prelude.{◌⊎◌}
use Rattle.pfs_lemmas.proofs.Options.{some_same}
use Rattle.pfs_event.specs.declared.entry.Entry.{Entry}
use Rattle.pfs_event.specs.declared.entry.Entry.TheVariants as says
use Rattle.pfs_model.specs.Contexts.{noted, subject_of}
use Rattle.pfs_model.specs.EntryPlaces.{Placed}
use Rattle.pfs_model.specs.Puts.{AreBroughtBehind, ArePaid, Due, IsBrought, behind_it, dues_at_end, dues_at_start}
use Rattle.pfs_check_brought.specs.declared.judging.DueRule.{DueRule}
use Rattle.pfs_check_brought.specs.declared.judging.DueRule.TheVariants as dues
use Rattle.pfs_check_brought.specs.BroughtRules.{AreDuesJudged}
use Rattle.pfs_check_caused.specs.declared.judging.CauseRule.{CauseRule}
use Rattle.pfs_check_caused.specs.declared.judging.CauseRule.TheVariants as causes
use Rattle.pfs_check_caused.specs.CauseRules.{AreCausesJudged}
use Rattle.pfs_check_faults.specs.declared.rules.Rule.TheVariants as rules
use Rattle.pfs_check_faults.specs.EntryFaults.{EventCauseAt}
use Rattle.pfs_check_faults.specs.Judgements.{Fails, Keeps}
use Rattle.pfs_check_faults.specs.ReportCases.{AllHave, Case, Findings, Lacks, LacksOn, entries_of, flags_in}
use Rattle.pfs_check_faults.specs.RingFaults.{BringsFail, IsUnbrought, IsUnpaid, RingsAt, UnbroughtAt}
use Rattle.pfs_check_tickets.specs.declared.judging.TicketRule.{TicketRule}
use Rattle.pfs_check_tickets.specs.declared.judging.TicketRule.TheVariants as tickets
use Rattle.pfs_check_tickets.specs.TicketRules.{AreTicketsJudged, LongsAt}
use Rattle.pfs_check_rings.specs.RingRules.{IsLeast, IsRingsLine, IsUnder, line_of_causes, line_of_dues, line_of_tickets}

-- an entry that lacks one of the parts, and one that lacks none
longs_lack : (all earlier ps : List Placed) (at : ℕ) → Lacks (LongsAt all) earlier ps at → Lacks (RingsAt all) earlier ps at
longs_lack all earlier [] at l = l
longs_lack all earlier (p ∷ ps) zero l = λ r. l (record { ticketed = r.ticketed; rises = r.rises })
longs_lack all earlier (p ∷ ps) (suc at) l = longs_lack all (p ∷ earlier) ps at l

causes_lack : (all earlier ps : List Placed) (at : ℕ) → Lacks (EventCauseAt all) earlier ps at → Lacks (RingsAt all) earlier ps at
causes_lack all earlier [] at l = l
causes_lack all earlier (p ∷ ps) zero l = λ r. l r.caused
causes_lack all earlier (p ∷ ps) (suc at) l = causes_lack all (p ∷ earlier) ps at l

none_lack : (all earlier ps : List Placed) (at : ℕ) → Lacks (RingsAt all) earlier ps at → (Lacks (LongsAt all) earlier ps at → ⊥)
    → (Lacks (EventCauseAt all) earlier ps at → ⊥) → ⊥
none_lack all earlier [] at l a b = l
none_lack all earlier (p ∷ ps) zero l a b = a (λ longs. b (λ cause. l (record { ticketed = longs.ticketed; rises = longs.rises; caused = cause })))
none_lack all earlier (p ∷ ps) (suc at) l a b = none_lack all (p ∷ earlier) ps at l a b

all_have : (fact : List Placed → Placed → Type 0) (earlier ps : List Placed) (at : ℕ) → AllHave fact earlier ps → Lacks fact earlier ps at → ⊥
all_have fact earlier [] at h l = l
all_have fact earlier (p ∷ ps) zero h l = l h.0
all_have fact earlier (p ∷ ps) (suc at) h l = all_have fact (p ∷ earlier) ps at h.1 l

-- what is brought is nowhere unbrought
paid : (dues : List Due) (entries : List Entry) (at : ℕ) → ArePaid dues entries → IsUnpaid dues entries at → ⊥
paid [] [] at p u = u
paid [] (entry ∷ entries) at p u = p
paid (due ∷ dues) [] at p u = p
paid (due ∷ dues) (entry ∷ entries) zero p u = u p.0
paid (due ∷ dues) (entry ∷ entries) (suc at) p u = paid dues entries at p.1 u.1

brought : (flags : ℕ → ℕ → ℕ) (earlier : List Placed) (place : Placed) (entry : Entry) (behind : List Entry) (at : ℕ)
    → IsBrought flags earlier place entry behind → IsUnbrought flags earlier place entry behind at → ⊥
brought flags earlier place (says.Start event verdict consumers thread class table) behind at b u =
    paid (dues_at_start flags place.context.slot (noted (subject_of place.line) place.context place.entry).opened) behind at b u
brought flags earlier place (says.End event last consumers thread) behind at b u =
    paid (dues_at_end flags earlier place place.context.opened consumers thread) behind at b u
brought flags earlier place _ behind at b u = u

none_unbrought : (flags : ℕ → ℕ → ℕ) (earlier ps : List Placed) (event at : ℕ) → AreBroughtBehind flags earlier ps
    → UnbroughtAt flags earlier ps event at → ⊥
none_unbrought flags earlier [] event at b u = u
none_unbrought flags earlier (p ∷ ps) zero at b u = brought flags earlier p p.entry (behind_it ps) at b.0 u
none_unbrought flags earlier (p ∷ ps) (suc event) at b u = none_unbrought flags (p ∷ earlier) ps event at b.1 u

-- a line of which no part fails below a line
abbrev None_ : (ℕ → Type 0) → ℕ → Type 0
None_ fails line = (other : ℕ) → other < line → fails other → ⊥

tickets_none : (case : Case) (found : Findings) (t : TicketRule) (line : ℕ) → AreTicketsJudged case found t → IsUnder line (line_of_tickets t)
    → None_ (LacksOn case.report (LongsAt (entries_of found)) (entries_of found)) line
tickets_none case found tickets.Kept line j u = λ other l fail. all_have (LongsAt (entries_of found)) [] (entries_of found) fail.0 j.each fail.2
tickets_none case found (tickets.Wrong first) line j u = λ other l fail. j.first other (omega (arith, l, u)) fail

causes_none : (case : Case) (found : Findings) (t : CauseRule) (line : ℕ) → AreCausesJudged case found t → IsUnder line (line_of_causes t)
    → None_ (LacksOn case.report (EventCauseAt (entries_of found)) (entries_of found)) line
causes_none case found causes.Kept line j u = λ other l fail. all_have (EventCauseAt (entries_of found)) [] (entries_of found) fail.0 j fail.2
causes_none case found (causes.Wrong first) line j u = λ other l fail. j.first other (omega (arith, l, u)) fail

dues_none : (case : Case) (found : Findings) (d : DueRule) (line : ℕ) → AreDuesJudged case found d → IsUnder line (line_of_dues d)
    → None_ (BringsFail case.report (flags_in case found) (entries_of found)) line
dues_none case found dues.Kept line j u = λ other l fail. none_unbrought (flags_in case found) [] (entries_of found) fail.event fail.at j fail.wrong
dues_none case found (dues.Wrong first) line j u = λ other l fail. j.first other (omega (arith, l, u)) fail

first_of : (case : Case) (found : Findings) (line : ℕ) → None_ (LacksOn case.report (LongsAt (entries_of found)) (entries_of found)) line
    → None_ (LacksOn case.report (EventCauseAt (entries_of found)) (entries_of found)) line
    → None_ (BringsFail case.report (flags_in case found) (entries_of found)) line → None_ (Fails rules.Rings case found) line
first_of case found line a b c other l (inl fail) =
    none_lack (entries_of found) [] (entries_of found) fail.0 fail.2 (λ h. a other l (fail.0, fail.1, h)) (λ h. b other l (fail.0, fail.1, h))
first_of case found line a b c other l (inr fail) = c other l fail

-- where a part fails the rule does
tickets_fail : (case : Case) (found : Findings) (t : TicketRule) (line : ℕ) → AreTicketsJudged case found t → line_of_tickets t ≡ Some line
    → Fails rules.Rings case found line
tickets_fail case found tickets.Kept line j e = absurd (cc)
tickets_fail case found (tickets.Wrong first) line j e = subst (Fails rules.Rings case found) (some_same first line e)
    (inl (j.fails.0, j.fails.1, longs_lack (entries_of found) [] (entries_of found) j.fails.0 j.fails.2))

causes_fail : (case : Case) (found : Findings) (t : CauseRule) (line : ℕ) → AreCausesJudged case found t → line_of_causes t ≡ Some line
    → Fails rules.Rings case found line
causes_fail case found causes.Kept line j e = absurd (cc)
causes_fail case found (causes.Wrong first) line j e = subst (Fails rules.Rings case found) (some_same first line e)
    (inl (j.fails.0, j.fails.1, causes_lack (entries_of found) [] (entries_of found) j.fails.0 j.fails.2))

dues_fail : (case : Case) (found : Findings) (d : DueRule) (line : ℕ) → AreDuesJudged case found d → line_of_dues d ≡ Some line
    → Fails rules.Rings case found line
dues_fail case found dues.Kept line j e = absurd (cc)
dues_fail case found (dues.Wrong first) line j e = subst (Fails rules.Rings case found) (some_same first line e) (inr j.fails)

kept : (case : Case) (found : Findings) (t : TicketRule) (c : CauseRule) (d : DueRule) → line_of_tickets t ≡ None → line_of_causes c ≡ None
    → line_of_dues d ≡ None → AreTicketsJudged case found t → AreCausesJudged case found c → AreDuesJudged case found d → Keeps rules.Rings case found
kept case found tickets.Kept causes.Kept dues.Kept e f g j k l = record { brought = l; ticketed = j.ticketed; risen = j.risen; caused = k }
kept case found tickets.Kept causes.Kept (dues.Wrong line) e f g j k l = absurd (cc)
kept case found tickets.Kept (causes.Wrong line) d e f g j k l = absurd (cc)
kept case found (tickets.Wrong line) c d e f g j k l = absurd (cc)

under_both : (line : ℕ) (one other least : Option ℕ) → IsLeast one other least → IsUnder line least → IsUnder line one × IsUnder line other
under_both line one other None l u = (subst (IsUnder line) (sym l.0) tt, subst (IsUnder line) (sym l.1) tt)
under_both line one other (Some least) l u = (more one l.1, more other l.2) where
  more : (o : Option ℕ) → IsUnder least o → IsUnder line o
  more None h = tt
  more (Some x) h = omega (arith, h, u)

pub rings_judged : (case : Case) (found : Findings) (t : TicketRule) (c : CauseRule) (d : DueRule) (first least : Option ℕ)
    → IsLeast (line_of_tickets t) (line_of_causes c) first → IsLeast first (line_of_dues d) least → AreTicketsJudged case found t
    → AreCausesJudged case found c → AreDuesJudged case found d → IsRingsLine case found least
rings_judged case found t c d first None one two j k l =
    kept case found t c d (both first one two.0).0 (both first one two.0).1 two.1 j k l where
      both : (o : Option ℕ) → IsLeast (line_of_tickets t) (line_of_causes c) o → o ≡ None → (line_of_tickets t ≡ None) × (line_of_causes c ≡ None)
      both None h e = h
      both (Some line) h e = absurd (cc)
rings_judged case found t c d first (Some line) one two j k l = record {
  fails = on two.0;
  first = first_of case found line
      (tickets_none case found t line j (under_both line (line_of_tickets t) (line_of_causes c) first one two.1).0)
      (causes_none case found c line k (under_both line (line_of_tickets t) (line_of_causes c) first one two.1).1)
      (dues_none case found d line l two.2);
} where
  entry : (o : Option ℕ) → IsLeast (line_of_tickets t) (line_of_causes c) o → o ≡ Some line → Fails rules.Rings case found line
  entry None h e = absurd (cc)
  entry (Some x) h e = at h.0 where
    at : (line_of_tickets t ≡ Some x) ⊎ (line_of_causes c ≡ Some x) → Fails rules.Rings case found line
    at (inl f) = tickets_fail case found t line j (f ∙ e)
    at (inr f) = causes_fail case found c line k (f ∙ e)

  on : (first ≡ Some line) ⊎ (line_of_dues d ≡ Some line) → Fails rules.Rings case found line
  on (inl e) = entry first one e
  on (inr e) = dues_fail case found d line l e
