-- The versions of rows at a phase's end.
use Rattle.std.proofs.Common.{◌≡◌, ℕ, zero, suc, ◌+◌, ◌≤◌, ◌==◌, ◌⊎◌, inl, inr, nat_lt, nat_le, Bool, true, false, ◌&&◌, ◌||◌, cond, List, [], ◌∷◌, ◌++◌, length, refl, ap, sym, ◌∙◌, arith, length-append}
use Rattle.std.specs.BTreeMap.{BTreeMap, get}
use Rattle.std.proofs.lemmas.Bool.Decides.{nat_tests}
use Rattle.pfs_check_contents.specs.KeptContents.{IsHad}
use Rattle.pfs_check_faults.proofs.ChainFacts.{row_one_change}
use Rattle.pfs_check_faults.proofs.MemberCounts.{among_left, among_right}
use Rattle.pfs_check_floors.proofs.GreatestFacts.{among_times}
use Rattle.pfs_check_floors.proofs.RowFacts.{stood_is}
use Rattle.pfs_check_floors.specs.ReleasedRows.{AreFreed, change_cmp, freed_by}
use Rattle.pfs_model.specs.Actions.{IsAmong}
use Rattle.pfs_model.specs.Chains.{AreChained, change_at, each_of, is_free_after, is_of, is_that, opens_free, row_change, times}
use Rattle.pfs_model.specs.EntryPlaces.{Placed, before_phase, chosen, up_to_phase}
use Rattle.pfs_model.specs.declared.changes.Change.{Change}
use Rattle.pfs_runs.specs.PhaseFinals.{row_version}

lt_le : (a b : ℕ) → nat_lt a (b + 1) ≡ nat_le a b
lt_le a b = grind (arith, nat_tests)

-- those up to a phase's end are those before the next phase
before_next : (phase : ℕ) (all : List Placed) → before_phase (phase + 1) all ≡ up_to_phase phase all
before_next phase [] = refl
before_next phase (place ∷ places) =
    ap (λ b. cond b (place ∷ []) [] ++ before_phase (phase + 1) places) (lt_le place.phase phase)
    ∙ ap (λ (z : List Placed). cond (nat_le place.phase phase) (place ∷ []) [] ++ z) (before_next phase places)

-- a row is FREE at a phase's end, as the releases tell
pub free_is : (all : List Placed) (freed : BTreeMap Change ℕ) (phase row version : ℕ) → AreFreed all freed → version ≡ row_version (up_to_phase phase all) row
    → (freed_by (get change_cmp freed (change_at row version)) (phase + 1) || ((version == 0) && opens_free row)) ≡ is_free_after (up_to_phase phase all) row
free_is all freed phase row version are v =
    stood_is all (phase + 1) row version (freed_by (get change_cmp freed (change_at row version)) (phase + 1))
    (v ∙ ap (λ (z : List Placed). times (is_of row) (each_of row_change z)) (sym (before_next phase all)))
    (are (change_at row version) (phase + 1))
    ∙ ap (λ (z : List Placed). is_free_after z row) (before_next phase all)

-- ---- no row has more versions than there are entries

times_few : (row : ℕ) (changes : List Change) → times (is_of row) changes ≤ length changes
times_few row [] = omega arith
times_few row (change ∷ changes) = omega (arith, times_few row changes, bit (is_of row change)) where
  bit : (b : Bool) → cond {A = ℕ} b 1 0 ≤ 1
  bit true = omega arith
  bit false = omega arith

each_few : (places : List Placed) → length (each_of row_change places) ≤ length places
each_few [] = omega arith
each_few (place ∷ places) = omega (arith, each_few places, row_one_change place.entry, length-append (row_change place.entry) (each_of row_change places))

chosen_few : (test : Placed → Bool) (places : List Placed) → length (chosen test places) ≤ length places
chosen_few test [] = omega arith
chosen_few test (place ∷ places) = at (test place) (chosen_few test places) where
  at : (b : Bool) → length (chosen test places) ≤ length places → length (cond b (place ∷ []) [] ++ chosen test places) ≤ length (place ∷ places)
  at true few = omega (arith, few)
  at false few = omega (arith, few)

pub version_few : (all : List Placed) (phase row : ℕ) → row_version (up_to_phase phase all) row ≤ length all
version_few all phase row =
    omega (arith, times_few row (each_of row_change (up_to_phase phase all)), each_few (up_to_phase phase all), chosen_few (λ place. nat_le place.phase phase) all)

-- ---- a row had its version at a phase's end

either : (x : Change) (xs ys : List Change) → IsAmong x (xs ++ ys) → IsAmong x xs ⊎ IsAmong x ys
either x [] ys among = inr among
either x (y ∷ xs) ys (inl e) = inl (inl e)
either x (y ∷ xs) ys (inr among) = on (either x xs ys among) where
  on : IsAmong x xs ⊎ IsAmong x ys → IsAmong x (y ∷ xs) ⊎ IsAmong x ys
  on (inl own) = inl (inr own)
  on (inr behind) = inr behind

among_all : (test : Placed → Bool) (x : Change) (places : List Placed) → IsAmong x (each_of row_change (chosen test places)) → IsAmong x (each_of row_change places)
among_all test x [] among = among
among_all test x (place ∷ places) among = at (λ behind. among_right x (row_change place.entry) (each_of row_change places) (among_all test x places behind)) (test place) among where
  at : (IsAmong x (each_of row_change (chosen test places)) → IsAmong x (each_of row_change (place ∷ places))) → (b : Bool) → IsAmong x (each_of row_change (cond b (place ∷ []) [] ++ chosen test places)) → IsAmong x (each_of row_change (place ∷ places))
  at rest true h = on (either x (row_change place.entry) (each_of row_change (chosen test places)) h) where
    on : IsAmong x (row_change place.entry) ⊎ IsAmong x (each_of row_change (chosen test places)) → IsAmong x (each_of row_change (place ∷ places))
    on (inl own) = among_left x (row_change place.entry) (each_of row_change places) own
    on (inr behind) = rest behind
  at rest false h = rest h

own_test : (n m : ℕ) → suc n ≡ m → (nat_lt 0 (suc n) && nat_le (suc n) m) ≡ true
own_test n m e = grind (arith, nat_tests, e)

pub version_had : (all : List Placed) (phase row version : ℕ) → AreChained row_change all → version ≡ row_version (up_to_phase phase all) row → IsHad all row version
version_had all phase row zero chained v = inl refl
version_had all phase row (suc n) chained v =
    let changes = each_of row_change (up_to_phase phase all) in
    let one : times (is_that (change_at row (suc n))) changes ≡ 1 =
    chained phase (change_at row (suc n)) ∙ ap (λ b. cond {A = ℕ} b 1 0) (own_test n (times (is_of row) changes) v) in
    inr (among_all (λ place. nat_le place.phase phase) (change_at row (suc n)) all (among_times (change_at row (suc n)) changes (omega (arith, one))))
