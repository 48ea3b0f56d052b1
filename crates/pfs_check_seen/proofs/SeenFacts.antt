-- The fifth rule of an entry, and of a report.
use Rattle.std.proofs.Common.{◌≡◌, refl, ℕ, ◌<◌, ◌≤◌, nat_lt, Bool, true, false, ◌&&◌, List, [], ◌∷◌, ◌++◌, sym, ◌∙◌, ap, subst, arith, append_assoc, Option, Some, None}
use Rattle.std.proofs.lemmas.Bool.{ltb-false, ltb-true}
use Rattle.pfs_journal.specs.declared.report.ReportParts.{ReportParts}
use Rattle.pfs_model.specs.declared.changes.Change.{Change}
use Rattle.pfs_model.specs.Chains.{Each, change_at, word_change}
use Rattle.pfs_model.specs.EntryPlaces.{Placed}
use Rattle.pfs_model.specs.Floors.{AreFlooredBehind, AreThere, IsThere, LoadsKeep, NamingsKeep, namings_of}
use Rattle.pfs_model.specs.SetupFlags.{loads_of, thread_word, word_named}
use Rattle.pfs_check_faults.specs.declared.rules.Rule.TheVariants as rules
use Rattle.pfs_check_faults.specs.EntryFaults.{IsSlotThere, SeesAt}
use Rattle.pfs_check_faults.specs.Judgements.{IsFirstFault, Keeps}
use Rattle.pfs_check_faults.specs.ReportCases.{AllHave, Case, Findings, LacksOn, entries_of}
use Rattle.pfs_check_floors.specs.declared.collecting.Collected.{Collected}
use Rattle.pfs_check_floors.specs.CollectedGivens.{AreCollected}
use Rattle.pfs_check_floors.specs.KnownFloors.{Tells}
use Rattle.pfs_check_seen.specs.SeenRules.{in_order, slot_test}
use Rattle.pfs_check_visits.specs.ReportVisits.{IsAsked}
use Rattle.pfs_check_visits.specs.Visits.{AreVisited}
use Rattle.pfs_check_visits.specs.declared.visited.Visited.{Visited}
use Rattle.pfs_check_visits.proofs.EntryCounts.{all_known}
use Rattle.pfs_check_walk.specs.Walks.{onto}

pub tells_true : (fact : Type 0) (b : Bool) → Tells fact b → b ≡ true → fact
tells_true fact true t e = t
tells_true fact false t e = absurd (cc)

pub tells_false : (fact : Type 0) (b : Bool) → Tells fact b → b ≡ false → fact → ⊥
tells_false fact true t e = absurd (cc)
tells_false fact false t e = t

-- the word of the printed slot
pub slot_tells : (slot version : Option ℕ) → Tells (Each (λ (word : Change). word.row < 160) (word_named thread_word slot version)) (slot_test slot version)
slot_tells None version = tt
slot_tells (Some slot) None = tt
slot_tells (Some slot) (Some version) = on (nat_lt slot 159) refl where
  on : (b : Bool) → nat_lt slot 159 ≡ b → Tells (Each (λ (word : Change). word.row < 160) (change_at (thread_word slot) version ∷ [])) b
  on true e = let low : slot < 159 = ltb-true slot 159 e in (omega (arith, low), tt)
  on false e = λ there. let high : 159 ≤ slot = ltb-false slot 159 e in omega (arith, high, there.0)

-- of an entry, by what is asked of it
pub sees_tells : (all earlier : List Placed) (place : Placed) (a b c d e : Bool) → Tells (NamingsKeep all earlier place (namings_of place.entry)) a
    → Tells (LoadsKeep all earlier place (loads_of place ++ word_change place.entry)) b → Tells (IsThere place.entry) c
    → Tells (IsSlotThere place) d → e ≡ (a && (b && (c && d))) → Tells (SeesAt all earlier place) e
sees_tells all earlier place a b c d e t u v w same = subst (Tells (SeesAt all earlier place)) (sym same) (on a b c d t u v w) where
  on : (a b c d : Bool) → Tells (NamingsKeep all earlier place (namings_of place.entry)) a
      → Tells (LoadsKeep all earlier place (loads_of place ++ word_change place.entry)) b → Tells (IsThere place.entry) c
      → Tells (IsSlotThere place) d → Tells (SeesAt all earlier place) (a && (b && (c && d)))
  on true true true true t u v w = record { rows = t; words = u; there = v; slot = w }
  on true true true false t u v w = λ s. w s.slot
  on true true false d t u v w = λ s. v s.there
  on true false c d t u v w = λ s. u s.words
  on false b c d t u v w = λ s. t s.rows

-- all entries are collected
order_onto : (earlier places : List Placed) → in_order (onto earlier places) ≡ in_order earlier ++ places
order_onto earlier [] = sym (none (in_order earlier)) where
  none : (xs : List Placed) → xs ++ [] ≡ xs
  none [] = refl
  none (x ∷ xs) = ap (λ z. x ∷ z) (none xs)
order_onto earlier (p ∷ ps) = order_onto (p ∷ earlier) ps ∙ append_assoc (in_order earlier) (p ∷ []) ps

pub all_in_order : (all : List Placed) → in_order (onto [] all) ≡ all
all_in_order all = order_onto [] all

pub collected_all : (found : Findings) (all : List Placed) (collected : Collected) (told : Type 0) (visited : Visited) → entries_of found ≡ all
    → AreVisited (λ earlier place. Unit {0}) [] all (λ earlier. AreCollected (in_order earlier) collected) told visited
    → AreCollected (entries_of found) collected
collected_all found all collected told visited e v =
    subst (λ z. AreCollected z collected) (all_in_order all ∙ sym e) (all_known all (λ earlier. AreCollected (in_order earlier) collected) told visited v)

-- the rule of all entries
floored : (all earlier places : List Placed) → AllHave (SeesAt all) earlier places → AreFlooredBehind all earlier places
floored all earlier [] h = tt
floored all earlier (p ∷ ps) h = (h.0.rows, h.0.words, floored all (p ∷ earlier) ps h.1)

there : (all earlier places : List Placed) → AllHave (SeesAt all) earlier places → AreThere places
there all earlier [] h = tt
there all earlier (p ∷ ps) h = (h.0.there, there all (p ∷ earlier) ps h.1)

slots : (all earlier places : List Placed) → AllHave (SeesAt all) earlier places → Each IsSlotThere places
slots all earlier [] h = tt
slots all earlier (p ∷ ps) h = (h.0.slot, slots all (p ∷ earlier) ps h.1)

pub seen_kept : (case : Case) (found : Findings) (report : ReportParts) (all : List Placed) (knows : List Placed → Type 0) → entries_of found ≡ all
    → IsAsked report (SeesAt (entries_of found)) all knows None → Keeps rules.Seen case found
seen_kept case found report all knows e asked = record {
  floored = floored (entries_of found) [] (entries_of found) kept;
  there = there (entries_of found) [] (entries_of found) kept;
  slots = slots (entries_of found) [] (entries_of found) kept;
} where
  kept : AllHave (SeesAt (entries_of found)) [] (entries_of found)
  kept = subst (AllHave (SeesAt (entries_of found)) []) (sym e) asked.0

pub seen_wrong : (case : Case) (found : Findings) (report : ReportParts) (all : List Placed) (knows : List Placed → Type 0) (line : ℕ)
    → case.report ≡ report → entries_of found ≡ all → IsAsked report (SeesAt (entries_of found)) all knows (Some line)
    → IsFirstFault rules.Seen case found line
seen_wrong case found report all knows line same e asked = record {
  fails = here line asked.fails;
  first = λ other less fails. asked.first other less (there_is other fails);
} where
  here : (line : ℕ) → LacksOn report (SeesAt (entries_of found)) all line → LacksOn case.report (SeesAt (entries_of found)) (entries_of found) line
  here line l =
      subst (λ z. LacksOn z (SeesAt (entries_of found)) (entries_of found) line) (sym same)
      (subst (λ z. LacksOn report (SeesAt (entries_of found)) z line) (sym e) l)

  there_is : (line : ℕ) → LacksOn case.report (SeesAt (entries_of found)) (entries_of found) line → LacksOn report (SeesAt (entries_of found)) all line
  there_is line l =
      subst (λ z. LacksOn report (SeesAt (entries_of found)) z line) e
      (subst (λ z. LacksOn z (SeesAt (entries_of found)) (entries_of found) line) same l)
