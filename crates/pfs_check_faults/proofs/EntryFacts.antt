-- What a rule says of all entries, as a fact of each.
use Rattle.std.proofs.Common.{ℕ, zero, suc, ◌<◌, ◌≤◌, inl, inr, List, [], ◌∷◌, arith}
use Rattle.pfs_event.specs.declared.entry.Entry.{Entry}
use Rattle.pfs_model.specs.Actions.{Deed, IsAmong, NeverFall, deed_at, deeds_of}
use Rattle.pfs_model.specs.ActionAsks.{Answer, AreAnswered, Rooms}
use Rattle.pfs_model.specs.Chains.{Each, each_of}
use Rattle.pfs_model.specs.Contexts.{noted, subject_of}
use Rattle.pfs_model.specs.EntryPlaces.{Placed}
use Rattle.pfs_model.specs.EventNumbers.{AreNumbered}
use Rattle.pfs_model.specs.Floors.{AreFlooredBehind, AreThere}
use Rattle.pfs_model.specs.Puts.{AreBroughtBehind, ArePaid, Due, behind_it, dues_at_end, dues_at_start}
use Rattle.pfs_event.specs.declared.entry.Entry.TheVariants as says
use Rattle.pfs_model.specs.Puts.{IsBrought}
use Rattle.pfs_model.specs.Rings.{LongRises, Ticketed, ticketed_at}
use Rattle.pfs_model.specs.SetupFlags.{AreJudged}
use Rattle.pfs_check_faults.proofs.MemberCounts.{among_left, among_right, each_among}
use Rattle.pfs_check_faults.specs.ActionFaults.{IsPredecessor, NeverFallsAt, Precedes}
use Rattle.pfs_check_faults.specs.EntryFaults.{IsSlotThere, JudgesAt, NumbersAt, SeesAt}
use Rattle.pfs_check_faults.specs.ReportCases.{AllHave, Lacks}
use Rattle.pfs_check_faults.specs.RingFaults.{IsUnbrought, IsUnpaid, LongRisesAt, UnbroughtAt}

-- where all have a fact, none lacks it
pub none_lacks : (fact : List Placed → Placed → Type 0) (earlier places : List Placed) (at : ℕ) → AllHave fact earlier places
    → Lacks fact earlier places at → ⊥
none_lacks fact earlier [] at h l = l
none_lacks fact earlier (place ∷ places) zero h l = l h.0
none_lacks fact earlier (place ∷ places) (suc at) h l = none_lacks fact (place ∷ earlier) places at h.1 l

pub all_see : (all earlier places : List Placed) → AreFlooredBehind all earlier places → AreThere places
    → Each IsSlotThere places → AllHave (SeesAt all) earlier places
all_see all earlier [] h t s = tt
all_see all earlier (place ∷ places) h t s = (
  record {
    rows = h.0;
    words = h.1;
    there = t.0;
    slot = s.0;
  },
  all_see all (place ∷ earlier) places h.2 t.1 s.1,
)

pub all_judge : (stack : ℕ) (flags : ℕ → ℕ → ℕ) (earlier places : List Placed) → AreJudged stack flags places
    → AllHave (JudgesAt stack flags) earlier places
all_judge stack flags earlier [] h = tt
all_judge stack flags earlier (place ∷ places) h = (h.0, all_judge stack flags (place ∷ earlier) places h.1)

pub all_numbered : (rooms : ℕ → Rooms) (answers : ℕ → Answer) (earlier places : List Placed) → AreNumbered places
    → AreAnswered rooms answers places → AllHave (NumbersAt rooms answers) earlier places
all_numbered rooms answers earlier [] h a = tt
all_numbered rooms answers earlier (place ∷ places) h a =
    (record { numbered = h.0; answered = a.0 }, all_numbered rooms answers (place ∷ earlier) places h.1 a.1)

-- so no deed falls behind its predecessor
pub never_falls : (all earlier places : List Placed) → NeverFall (deeds_of all)
    → ((deed : Deed) → IsAmong deed (deeds_of places) → IsAmong deed (deeds_of all))
    → AllHave (NeverFallsAt all) earlier places
never_falls all earlier [] never i = tt
never_falls all earlier (place ∷ places) never i = (
  each_among _ (deed_at place.context.action place.entry) here,
  never_falls all (place ∷ earlier) places never
      (λ deed d. i deed (among_right deed (deed_at place.context.action place.entry) (deeds_of places) d)),
) where
  here : (next : Deed) → IsAmong next (deed_at place.context.action place.entry) → (first : Deed)
      → IsPredecessor (deeds_of all) first next → first.action ≤ next.action
  here next d first p = at p.before where
    found : IsAmong next (deeds_of all)
    found = i next (among_left next (deed_at place.context.action place.entry) (deeds_of places) d)

    at : Precedes first next → first.action ≤ next.action
    at (row, inl lower) = never first next p.there found (row, inl lower)
    at (row, inr (inl same)) = never first next p.there found (row, inr same)
    at (row, inr (inr both)) = let less : first.action < next.action = both.3 in omega arith

pub long_rises : (all earlier places : List Placed) → LongRises all
    → ((put : Ticketed) → IsAmong put (each_of ticketed_at places) → IsAmong put (each_of ticketed_at all))
    → AllHave (LongRisesAt all) earlier places
long_rises all earlier [] rises i = tt
long_rises all earlier (place ∷ places) rises i = (
  each_among _ (ticketed_at place.entry)
      (λ next n first p. rises first next p.there
      (i next (among_left next (ticketed_at place.entry) (each_of ticketed_at places) n)) p.row p.lower p.unreleased),
  long_rises all (place ∷ earlier) places rises
      (λ put n. i put (among_right put (ticketed_at place.entry) (each_of ticketed_at places) n)),
)

-- what is paid is nowhere unpaid
paid : (dues : List Due) (entries : List Entry) (at : ℕ) → ArePaid dues entries → IsUnpaid dues entries at → ⊥
paid [] [] at p u = u
paid [] (entry ∷ entries) at p u = p
paid (due ∷ dues) [] at p u = p
paid (due ∷ dues) (entry ∷ entries) zero p u = u p.0
paid (due ∷ dues) (entry ∷ entries) (suc at) p u = paid dues entries at p.1 u.1

brought : (flags : ℕ → ℕ → ℕ) (earlier : List Placed) (place : Placed) (entry : Entry) (behind : List Entry) (at : ℕ)
    → IsBrought flags earlier place entry behind → IsUnbrought flags earlier place entry behind at → ⊥
brought flags earlier place (says.Start event verdict consumers thread class table) behind at b u =
    paid (dues_at_start flags place.context.slot (noted (subject_of place.line) place.context place.entry).opened) behind at b u
brought flags earlier place (says.End event last consumers thread) behind at b u =
    paid (dues_at_end flags earlier place place.context.opened consumers thread) behind at b u
brought flags earlier place _ behind at b u = u

pub none_unbrought : (flags : ℕ → ℕ → ℕ) (earlier places : List Placed) (event at : ℕ) → AreBroughtBehind flags earlier places
    → UnbroughtAt flags earlier places event at → ⊥
none_unbrought flags earlier [] event at b u = u
none_unbrought flags earlier (place ∷ places) zero at b u = brought flags earlier place place.entry (behind_it places) at b.0 u
none_unbrought flags earlier (place ∷ places) (suc event) at b u = none_unbrought flags (place ∷ earlier) places event at b.1 u
