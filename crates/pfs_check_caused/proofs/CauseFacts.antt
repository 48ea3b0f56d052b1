-- The causes of an entry, and of a report.
use Rattle.std.proofs.Common.{◌≡◌, refl, ℕ, Bool, true, false, ◌||◌, not, List, [], sym, ◌∙◌, subst, Option, Some, None}
use Rattle.pfs_journal.specs.declared.report.ReportParts.{ReportParts}
use Rattle.pfs_model.specs.Causes.{ShowsCause}
use Rattle.pfs_model.specs.EntryPlaces.{Placed}
use Rattle.pfs_model.specs.Rings.{is_reading_line}
use Rattle.pfs_check_causes.specs.declared.causes.CauseGivens.{CauseGivens}
use Rattle.pfs_check_causes.specs.CauseIndexes.{AreNoted}
use Rattle.pfs_check_faults.specs.EntryFaults.{EventCauseAt, QueryCauseAt}
use Rattle.pfs_check_faults.specs.ReportCases.{AllHave, Case, Findings, entries_of}
use Rattle.pfs_check_floors.specs.KnownFloors.{Tells}
use Rattle.pfs_check_seen.specs.SeenRules.{in_order}
use Rattle.pfs_check_seen.proofs.SeenFacts.{all_in_order, tells_false, tells_true}
use Rattle.pfs_check_visits.specs.ReportVisits.{IsAsked, IsFirstLacking}
use Rattle.pfs_check_visits.specs.Visits.{AreVisited}
use Rattle.pfs_check_visits.specs.declared.visited.Visited.{Visited}
use Rattle.pfs_check_visits.proofs.EntryCounts.{all_known}
use Rattle.pfs_check_caused.specs.declared.judging.CauseRule.{CauseRule}
use Rattle.pfs_check_caused.specs.CauseRules.{AreAsked, rule_of}

-- of an entry, by its line and by whether it shows its cause
told_in : (fact : Type 0) (line kept : Bool) (shown : Bool) → Tells fact shown → kept ≡ (line || shown) → Tells (line ≡ false → fact) kept
told_in fact line kept shown t e = subst (Tells (line ≡ false → fact)) (sym e) (on line shown t) where
  on : (line shown : Bool) → Tells fact shown → Tells (line ≡ false → fact) (line || shown)
  on true shown t = λ is. absurd (cc)
  on false true t = λ is. t
  on false false t = λ all. t (all refl)

told_out : (fact : Type 0) (line kept : Bool) (shown : Bool) → Tells fact shown → kept ≡ (not line || shown) → Tells (line ≡ true → fact) kept
told_out fact line kept shown t e = subst (Tells (line ≡ true → fact)) (sym e) (on line shown t) where
  on : (line shown : Bool) → Tells fact shown → Tells (line ≡ true → fact) (not line || shown)
  on false shown t = λ is. absurd (cc)
  on true true t = λ is. t
  on true false t = λ all. t (all refl)

event_tells : (all earlier : List Placed) (place : Placed) (shown kept : Bool) → Tells (ShowsCause all earlier place place.entry) shown
    → kept ≡ (is_reading_line place.line || shown) → Tells (EventCauseAt all earlier place) kept
event_tells all earlier place shown kept t e = told_in (ShowsCause all earlier place place.entry) (is_reading_line place.line) kept shown t e

query_tells : (all earlier : List Placed) (place : Placed) (shown kept : Bool) → Tells (ShowsCause all earlier place place.entry) shown
    → kept ≡ (not (is_reading_line place.line) || shown) → Tells (QueryCauseAt all earlier place) kept
query_tells all earlier place shown kept t e = told_out (ShowsCause all earlier place place.entry) (is_reading_line place.line) kept shown t e

pub event_kept : (all earlier : List Placed) (place : Placed) (shown kept : Bool) → Tells (ShowsCause all earlier place place.entry) shown
    → kept ≡ (is_reading_line place.line || shown) → kept ≡ true → EventCauseAt all earlier place
event_kept all earlier place shown kept t e is = tells_true (EventCauseAt all earlier place) kept (event_tells all earlier place shown kept t e) is

pub event_lacks : (all earlier : List Placed) (place : Placed) (shown kept : Bool) → Tells (ShowsCause all earlier place place.entry) shown
    → kept ≡ (is_reading_line place.line || shown) → kept ≡ false → EventCauseAt all earlier place → ⊥
event_lacks all earlier place shown kept t e is = tells_false (EventCauseAt all earlier place) kept (event_tells all earlier place shown kept t e) is

pub query_kept : (all earlier : List Placed) (place : Placed) (shown kept : Bool) → Tells (ShowsCause all earlier place place.entry) shown
    → kept ≡ (not (is_reading_line place.line) || shown) → kept ≡ true → QueryCauseAt all earlier place
query_kept all earlier place shown kept t e is = tells_true (QueryCauseAt all earlier place) kept (query_tells all earlier place shown kept t e) is

pub query_lacks : (all earlier : List Placed) (place : Placed) (shown kept : Bool) → Tells (ShowsCause all earlier place place.entry) shown
    → kept ≡ (not (is_reading_line place.line) || shown) → kept ≡ false → QueryCauseAt all earlier place → ⊥
query_lacks all earlier place shown kept t e is = tells_false (QueryCauseAt all earlier place) kept (query_tells all earlier place shown kept t e) is

-- all entries are collected, in their order
pub noted_all : (found : Findings) (all : List Placed) (givens : CauseGivens) (told : Type 0) (visited : Visited) → entries_of found ≡ all
    → AreVisited (λ earlier place. Unit {0}) [] all (λ earlier. AreNoted (in_order earlier) givens) told visited
    → AreNoted (entries_of found) givens
noted_all found all givens told visited e v =
    subst (λ z. AreNoted z givens) (all_in_order all ∙ sym e) (all_known all (λ earlier. AreNoted (in_order earlier) givens) told visited v)

-- the answer, by the first line that lacks it
pub judged : (case : Case) (found : Findings) (rule : List Placed → Placed → Type 0) (report : ReportParts) (all : List Placed)
    (knows : List Placed → Type 0) (line : Option ℕ) (answer : CauseRule) → case.report ≡ report → entries_of found ≡ all
    → answer ≡ rule_of line → IsAsked report rule all knows line → AreAsked case found rule answer
judged case found rule report all knows line answer same e is asked = subst (AreAsked case found rule) (sym is) (on line asked) where
  on : (line : Option ℕ) → IsAsked report rule all knows line → AreAsked case found rule (rule_of line)
  on None asked = subst (AllHave rule []) (sym e) asked.0
  on (Some line) asked =
      subst (λ z. IsFirstLacking z rule (entries_of found) line) (sym same)
      (subst (λ z. IsFirstLacking report rule z line) (sym e) asked)
