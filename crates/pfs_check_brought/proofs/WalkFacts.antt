-- What the walk knows, one entry after another and at its end.
use Rattle.std.proofs.Common.{◌≡◌, ℕ, zero, suc, ◌+◌, ◌-◌, ◌<◌, inl, inr, Bool, true, false, cond, List, [], ◌∷◌, length, sym, ◌∙◌, ap, subst, arith, Option, Some, None}
use Rattle.std.specs.Prelude.{is_some, slice_get}
use Rattle.pfs_journal.specs.declared.report.ReportParts.{ReportParts}
use Rattle.pfs_model.specs.EntryPlaces.{Block, Placed, places}
use Rattle.pfs_model.specs.Puts.{AreBrought}
use Rattle.pfs_runs.specs.Runs.{all_blocks}
use Rattle.pfs_script.specs.declared.blocks.Phase.{Phase}
use Rattle.pfs_check_dues.specs.DueRules.{IsFirstUnbrought}
use Rattle.pfs_check_dues.specs.OwedPuts.{IsSettled, Pays, owed_after, owed_by}
use Rattle.pfs_check_dues.proofs.OwedFacts.{brought_law}
use Rattle.pfs_check_faults.specs.ReportCases.{AllHave, Case, Findings, entries_of, entry_lines, flags_in}
use Rattle.pfs_check_faults.specs.ShapeFaults.{IsCut}
use Rattle.pfs_check_verdicts.specs.PrintedSets.{GivesFlags}
use Rattle.pfs_check_visits.specs.Visits.{AreVisited}
use Rattle.pfs_check_visits.specs.declared.visited.Visited.{Visited}
use Rattle.pfs_check_visits.proofs.EntryCounts.{all_known, line_lacking}
use Rattle.pfs_check_walk.specs.NumberTests.{Tells}
use Rattle.pfs_check_walk.specs.Walks.{LacksFirst, onto}
use Rattle.pfs_check_brought.specs.declared.bringing.Bringing.{Bringing}
use Rattle.pfs_check_brought.specs.declared.bringing.Stop.{Stop}
use Rattle.pfs_check_brought.specs.declared.judging.DueRule.TheVariants as dues
use Rattle.pfs_check_brought.specs.BroughtRules.{AreDuesJudged, StopsOwing}
use Rattle.pfs_check_brought.specs.HistoryCounts.{AreHistories}
use Rattle.pfs_check_brought.specs.KeptDues.{owed_of}
use Rattle.pfs_check_brought.specs.StoppedWalks.{AllPaid, IsWalkedTo, SomeStops, is_event}
use Rattle.pfs_check_brought.proofs.StopFacts.{last_all, last_at, length_onto, paid_have, stop_found, stops_owing}

-- before the first entry
pub walk_begins : (flags : ℕ → ℕ → ℕ) (visitor : Bringing) → GivesFlags flags visitor.flags → AreHistories [] visitor.histories
    → visitor.owed ≡ None → visitor.place ≡ 0 → visitor.event ≡ 0 → visitor.stop ≡ None → IsWalkedTo flags [] visitor visitor.stop
unfolding owed_by
walk_begins flags visitor given histories owed place event stop = subst (IsWalkedTo flags [] visitor) (sym stop) (record {
  paid = tt;
  flags_are = given;
  histories = histories;
  owed = ap owed_of owed;
  place = place;
  event = event;
})

-- a walk that has stopped
pub stays_stopped : (flags : ℕ → ℕ → ℕ) (earlier : List Placed) (place : Placed) (visitor : Bringing) (stop : Option Stop) → is_some stop ≡ true
    → IsWalkedTo flags earlier visitor stop → IsWalkedTo flags (place ∷ earlier) visitor stop
stays_stopped flags earlier place visitor None e w = absurd (cc)
stays_stopped flags earlier place visitor (Some stop) e w = inr w

-- one that hasn't
pub all_paid : (flags : ℕ → ℕ → ℕ) (earlier : List Placed) (visitor : Bringing) (stop : Option Stop) → is_some stop ≡ false
    → IsWalkedTo flags earlier visitor stop → AllPaid flags earlier visitor
all_paid flags earlier visitor None e w = w
all_paid flags earlier visitor (Some stop) e w = absurd (cc)

pub walks_on : (flags : ℕ → ℕ → ℕ) (earlier : List Placed) (visitor : Bringing) (stop : Option Stop) → is_some stop ≡ false
    → AllPaid flags earlier visitor → IsWalkedTo flags earlier visitor stop
walks_on flags earlier visitor None e all = all
walks_on flags earlier visitor (Some stop) e all = absurd (cc)

tells_true : (fact : Type 0) (b : Bool) → Tells fact b → b ≡ true → fact
tells_true fact true t e = t
tells_true fact false t e = absurd (cc)

tells_false : (fact : Type 0) (b : Bool) → Tells fact b → b ≡ false → fact → ⊥
tells_false fact true t e = absurd (cc)
tells_false fact false t e = t

-- and stops at this entry
pub stops_here : (flags : ℕ → ℕ → ℕ) (earlier : List Placed) (place : Placed) (visitor : Bringing) (b : Bool) → AllPaid flags earlier visitor
    → Tells (Pays (owed_of visitor.owed) place.entry) b → b ≡ false
    → SomeStops flags (place ∷ earlier) (record { event = visitor.event; at = visitor.place })
stops_here flags earlier place visitor b all tells e = inl (record {
  paid = all.paid;
  unpaid = λ pays. tells_false (Pays (owed_of visitor.owed) place.entry) b tells e (subst (λ z. Pays z place.entry) (sym all.owed) pays);
  at = all.place;
  event = all.event;
})

-- or this one pays too
pub paid_more : (flags : ℕ → ℕ → ℕ) (earlier : List Placed) (place : Placed) (old new : Bringing) (b : Bool) → AllPaid flags earlier old
    → Tells (Pays (owed_of old.owed) place.entry) b → b ≡ true → new.flags ≡ old.flags → AreHistories (place ∷ earlier) new.histories
    → owed_of new.owed ≡ owed_after flags earlier place place.entry (owed_of old.owed) → new.place ≡ old.place + 1
    → new.event ≡ cond (is_event place.entry) old.place old.event → AllPaid flags (place ∷ earlier) new
unfolding owed_by
paid_more flags earlier place old new b all tells e same histories owed next event = record {
  paid = (subst (λ z. Pays z place.entry) all.owed (tells_true (Pays (owed_of old.owed) place.entry) b tells e), all.paid);
  flags_are = subst (GivesFlags flags) (sym same) all.flags_are;
  histories = histories;
  owed = owed ∙ ap (owed_after flags earlier place place.entry) all.owed;
  place = next ∙ longer old.place (length earlier) all.place;
  event = event ∙ ap (λ z. cond (is_event place.entry) z old.event) all.place ∙ ap (cond (is_event place.entry) (length earlier)) all.event;
} where
  longer : (n m : ℕ) → n ≡ m → n + 1 ≡ suc m
  longer n m e = omega (arith, e)

-- behind all entries
pub walked_stop : (flags : ℕ → ℕ → ℕ) (all : List Placed) (visitor : Bringing) (stop : Stop) → visitor.stop ≡ Some stop
    → IsWalkedTo flags (onto [] all) visitor visitor.stop → StopsOwing flags all stop
walked_stop flags all visitor stop e w = stop_found flags all stop (subst (IsWalkedTo flags (onto [] all) visitor) e w)

pub walked_none : (flags : ℕ → ℕ → ℕ) (all : List Placed) (visitor : Bringing) → visitor.stop ≡ None
    → IsWalkedTo flags (onto [] all) visitor visitor.stop → AllPaid flags (onto [] all) visitor
walked_none flags all visitor e w = subst (IsWalkedTo flags (onto [] all) visitor) e w

pub settled_all : (flags : ℕ → ℕ → ℕ) (all : List Placed) (visitor : Bringing) (b : Bool) → AllPaid flags (onto [] all) visitor
    → Tells (IsSettled (owed_of visitor.owed)) b → b ≡ true → AreBrought flags all
settled_all flags all visitor b paid tells e =
    brought_law flags all (paid_have flags [] all paid.paid).0
    (subst IsSettled paid.owed (tells_true (IsSettled (owed_of visitor.owed)) b tells e))

pub left_all : (flags : ℕ → ℕ → ℕ) (all : List Placed) (visitor : Bringing) (b : Bool) → AllPaid flags (onto [] all) visitor
    → Tells (IsSettled (owed_of visitor.owed)) b → b ≡ false → StopsOwing flags all (record { event = visitor.event; at = visitor.place })
left_all flags all visitor b paid tells e =
    stops_owing flags all (record { event = visitor.event; at = visitor.place })
    (inr ((paid_have flags [] all paid.paid).0, unsettled, count))
    (paid.event ∙ sym (ap (last_at [] all) count ∙ last_all [] all)) where
      unsettled : IsSettled (owed_by flags (onto [] all)) → ⊥
      unsettled s = tells_false (IsSettled (owed_of visitor.owed)) b tells e (subst IsSettled (sym paid.owed) s)

      count : visitor.place ≡ length all
      count = let long : length (onto [] all) ≡ length {A = Placed} [] + length all = length_onto [] all in omega (arith, paid.place, long)

-- the line of a stop
pub line_found : (case : Case) (found : Findings) (report : ReportParts) (stop : Stop) (begins lines line : ℕ) → case.report ≡ report
    → StopsOwing (flags_in case found) (entries_of found) stop → Some begins ≡ slice_get (entry_lines report) stop.event
    → lines ≡ stop.at - stop.event → line ≡ begins + lines → AreDuesJudged case found (dues.Wrong line)
line_found case found report stop begins lines line same stops stands e f =
    subst (λ z. IsFirstUnbrought case.report (flags_in case found) (entries_of found) z) (sym (f ∙ ap (λ z. begins + z) e))
    (stops.first case.report begins (subst (λ z. slice_get (entry_lines z) stop.event ≡ Some begins) (sym same) (sym stands)))

-- every entry of a report that is cut has a line: else all would have the fact that one of them lacks, which is to stand
-- at another place
abbrev elsewhere : ℕ → List Placed → Placed → Type 0
elsewhere at earlier place = length earlier ≡ at → ⊥

lacks_here : (at : ℕ) (earlier places : List Placed) (k : ℕ) → length earlier + k ≡ at → k < length places → LacksFirst (elsewhere at) earlier places k
lacks_here at earlier [] k e h = absurd (omega (arith, h))
lacks_here at earlier (p ∷ ps) zero e h = λ other. other (same (length earlier) at e) where
  same : (n at : ℕ) → n + 0 ≡ at → n ≡ at
  same n at e = omega (arith, e)
lacks_here at earlier (p ∷ ps) (suc k) e h = (apart (length earlier) k at e, lacks_here at (p ∷ earlier) ps k (next (length earlier) k at e) (omega (arith, h))) where
  apart : (n k at : ℕ) → n + suc k ≡ at → n ≡ at → ⊥
  apart n k at e f = omega (arith, e, f)

  next : (n k at : ℕ) → n + suc k ≡ at → suc n + k ≡ at
  next n k at e = omega (arith, e)

none_lacks : (rule : List Placed → Placed → Type 0) (earlier places : List Placed) (k : ℕ) → AllHave rule earlier places
    → LacksFirst rule earlier places k → ⊥
none_lacks rule earlier [] k h l = l
none_lacks rule earlier (p ∷ ps) zero h l = l h.0
none_lacks rule earlier (p ∷ ps) (suc k) h l = none_lacks rule (p ∷ earlier) ps k h.1 l.1

has_line : (phases : List Phase) (report : ReportParts) (blocks : List (List Block)) (at : ℕ) → IsCut phases report blocks
    → at < length (places (all_blocks blocks)) → None ≡ slice_get (entry_lines report) at → ⊥
has_line phases report blocks at cut within none =
    let lacks = lacks_here at [] (places (all_blocks blocks)) at (from at) within in
    none_lacks (elsewhere at) [] (places (all_blocks blocks)) at
    (line_lacking phases report blocks (elsewhere at) (λ earlier. Unit {0}) at None cut lacks none).0 lacks where
      from : (n : ℕ) → 0 + n ≡ n
      from n = omega arith

pub line_there : (case : Case) (found : Findings) (report : ReportParts) (stop : Stop) (rule : Type 0) → case.report ≡ report
    → IsCut case.phases case.report found.blocks → StopsOwing (flags_in case found) (entries_of found) stop
    → None ≡ slice_get (entry_lines report) stop.event → rule
line_there case found report stop rule same cut stops none =
    absurd (has_line case.phases case.report found.blocks stop.event cut stops.within
    (subst (λ z. None ≡ slice_get (entry_lines z) stop.event) (sym same) none))

-- The walk of a report is over all its entries.
pub walked : (case : Case) (found : Findings) (all : List Placed) (visitor : Bringing) (visited : Visited) → entries_of found ≡ all
    → AreVisited (λ earlier place. Unit {0}) [] all (λ earlier. IsWalkedTo (flags_in case found) earlier visitor visitor.stop) (Unit {0}) visited
    → IsWalkedTo (flags_in case found) (onto [] (entries_of found)) visitor visitor.stop
walked case found all visitor visited e v =
    subst (λ z. IsWalkedTo (flags_in case found) (onto [] z) visitor visitor.stop) (sym e)
    (all_known all (λ earlier. IsWalkedTo (flags_in case found) earlier visitor visitor.stop) (Unit {0}) visited v)
