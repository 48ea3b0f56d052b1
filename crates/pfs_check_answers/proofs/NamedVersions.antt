-- Where what lines name was there, each version of a row that an entry says was seen is one that the row had.
use Rattle.std.proofs.Common.{◌≡◌, refl, ℕ, zero, suc, ◌≤◌, ◌⊎◌, inl, inr, nat_lt, nat_le, Bool, true, false, ◌&&◌, cond, List, [], ◌∷◌, ◌++◌, ap, ◌∙◌, arith}
use Rattle.std.specs.Prelude.{All}
use Rattle.std.proofs.lemmas.Bool.Decides.{nat_tests}
use Rattle.std.proofs.lemmas.List.Elements.{All-cons, All-nil}
use Rattle.pfs_event.specs.declared.entry.Entry.{Entry}
use Rattle.pfs_event.specs.declared.entry.Entry.TheVariants as says
use Rattle.pfs_model.specs.Actions.{IsAmong}
use Rattle.pfs_model.specs.Chains.{AreChained, change_at, each_of, is_of, is_that, row_change, times}
use Rattle.pfs_model.specs.EntryPlaces.{Placed, chosen, up_to_phase}
use Rattle.pfs_model.specs.Floors.{AreFloored, AreFlooredBehind, NamingsKeep, namings_of}
use Rattle.pfs_model.specs.declared.changes.Change.{Change}
use Rattle.pfs_check_contents.specs.KeptContents.{IsHad}
use Rattle.pfs_check_faults.proofs.MemberCounts.{among_left, among_right}
use Rattle.pfs_check_floors.proofs.GreatestFacts.{among_times}
use Rattle.pfs_check_answers.specs.SelectReadings.{NamesHad}

either : (x : Change) (xs ys : List Change) → IsAmong x (xs ++ ys) → IsAmong x xs ⊎ IsAmong x ys
either x [] ys among = inr among
either x (y ∷ xs) ys (inl e) = inl (inl e)
either x (y ∷ xs) ys (inr among) = on (either x xs ys among) where
  on : IsAmong x xs ⊎ IsAmong x ys → IsAmong x (y ∷ xs) ⊎ IsAmong x ys
  on (inl own) = inl (inr own)
  on (inr behind) = inr behind

among_all : (test : Placed → Bool) (x : Change) (places : List Placed) → IsAmong x (each_of row_change (chosen test places)) → IsAmong x (each_of row_change places)
among_all test x [] among = among
among_all test x (place ∷ places) among = at (among_all test x places) (test place) among where
  at : (IsAmong x (each_of row_change (chosen test places)) → IsAmong x (each_of row_change places)) → (b : Bool)
      → IsAmong x (each_of row_change (cond b (place ∷ []) [] ++ chosen test places)) → IsAmong x (each_of row_change (place ∷ places))
  at rest false h = among_right x (row_change place.entry) (each_of row_change places) (rest h)
  at rest true h = on (either x (row_change place.entry) (each_of row_change (chosen test places)) h) where
    on : IsAmong x (row_change place.entry) ⊎ IsAmong x (each_of row_change (chosen test places)) → IsAmong x (each_of row_change (place ∷ places))
    on (inl own) = among_left x (row_change place.entry) (each_of row_change places) own
    on (inr behind) = among_right x (row_change place.entry) (each_of row_change places) (rest behind)

own_test : (n m : ℕ) → suc n ≤ m → (nat_lt 0 (suc n) && nat_le (suc n) m) ≡ true
own_test n m e = grind (arith, nat_tests, e)

version_had : (all : List Placed) (phase row version : ℕ) → AreChained row_change all → version ≤ times (is_of row) (each_of row_change (up_to_phase phase all)) → IsHad all row version
version_had all phase row zero chained few = inl refl
version_had all phase row (suc n) chained few =
    let changes = each_of row_change (up_to_phase phase all) in
    let one : times (is_that (change_at row (suc n))) changes ≡ 1 =
    chained phase (change_at row (suc n)) ∙ ap (λ b. cond {A = ℕ} b 1 0) (own_test n (times (is_of row) changes) few) in
    inr (among_all (λ place. nat_le place.phase phase) (change_at row (suc n)) all (among_times (change_at row (suc n)) changes (omega (arith, one))))

-- the fifth rule says so of each entry
pub all_named : (all : List Placed) → AreFloored all → AreChained row_change all → All (λ place. NamesHad all place.entry) all
all_named all floored chained = behind [] all floored where
  one : (earlier : List Placed) (place : Placed) (entry : Entry) → NamingsKeep all earlier place (namings_of entry) → NamesHad all entry
  one earlier place (says.Seen row version) keeps = version_had all place.phase row version chained keeps.1
  one earlier place _ keeps = tt

  behind : (earlier places : List Placed) → AreFlooredBehind all earlier places → All (λ place. NamesHad all place.entry) places
  behind earlier [] floored = All-nil (λ place. NamesHad all place.entry)
  behind earlier (place ∷ places) floored =
      All-cons (λ place. NamesHad all place.entry) place places (one earlier place place.entry floored.0) (behind (place ∷ earlier) places floored.2)
