-- Each take is found by its action and its row.
use Rattle.std.proofs.Common.{ℕ, ◌≡◌, ◌==◌, Bool, true, false, List, [], ◌∷◌, ◌++◌, eq-eqb, refl, ap, ◌∙◌}
use Rattle.std.specs.Prelude.{◌&&◌, if◌then◌else◌}
use Rattle.pfs_model.proofs.EachLists.{each_behind, each_front}
use Rattle.pfs_event.specs.declared.entry.Entry.{Entry}
use Rattle.pfs_event.specs.declared.entry.Entry.TheVariants as says
use Rattle.pfs_model.specs.Chains.{Each}
use Rattle.pfs_model.specs.Contents.{IsFoundAsCounted}
use Rattle.pfs_law_session.specs.Deeds.{Part, part_entries}
use Rattle.pfs_law_session.specs.Stints.{Stint}
use Rattle.pfs_law_session.specs.Demands.{AreCounted, number_of}
use Rattle.pfs_law_session.specs.Takes.{Taken, taken_at, taken_in, taken_by, all_taken, found_counted, is_of, counted_by, AreApart, CountedIn, AllCounted, CountedLaw}

abbrev IsHeld : (ℕ → ℕ → List ℕ) → (ℕ → ℕ → Bool) → Taken → Type 0
IsHeld content counted taken = counted taken.action taken.row ≡ found_counted content taken

-- behind another take that isn't the same
still_held : (content : ℕ → ℕ → List ℕ) (taken : Taken) (others some : List Taken) → Each (λ other. is_of other.action other.row taken ≡ false) some
    → Each (IsHeld content (counted_by content others)) some → Each (IsHeld content (counted_by content (taken ∷ others))) some
still_held content taken others [] a h = tt
still_held content taken others (one ∷ some) a h =
    (ap (λ b. if b then found_counted content taken else counted_by content others one.action one.row) a.0 ∙ h.0, still_held content taken others some a.1 h.1)

own_is : (taken : Taken) → is_of taken.action taken.row taken ≡ true
own_is taken = ap (λ b. b && (taken.row == taken.row)) (eq-eqb taken.action taken.action refl) ∙ eq-eqb taken.row taken.row refl

all_held : (content : ℕ → ℕ → List ℕ) (all : List Taken) → AreApart all → Each (IsHeld content (counted_by content all)) all
all_held content [] a = tt
all_held content (taken ∷ others) a =
    (ap (λ b. if b then found_counted content taken else counted_by content others taken.action taken.row) (own_is taken), still_held content taken others others a.0 (all_held content others a.1))

one_counted : (content : ℕ → ℕ → List ℕ) (counted : ℕ → ℕ → Bool) (action : ℕ) (e : Entry) → Each (IsHeld content counted) (taken_at action e) → IsFoundAsCounted content counted action e
one_counted content counted action (says.Take row version) a = a.0
one_counted content counted action _ a = tt

entries_counted : (content : ℕ → ℕ → List ℕ) (counted : ℕ → ℕ → Bool) (action : ℕ) (es : List Entry) → Each (IsHeld content counted) (taken_in action es) → AreCounted content counted action es
entries_counted content counted action [] a = tt
entries_counted content counted action (e ∷ es) a = (
  one_counted content counted action e (each_front (IsHeld content counted) (taken_at action e) (taken_in action es) a),
  entries_counted content counted action es (each_behind (IsHeld content counted) (taken_at action e) (taken_in action es) a),
)

parts_counted : (content : ℕ → ℕ → List ℕ) (counted : ℕ → ℕ → Bool) (ps : List Part) → Each (IsHeld content counted) (taken_by ps) → CountedIn content counted ps
parts_counted content counted [] a = tt
parts_counted content counted (p ∷ ps) a =
    let own : List Taken = taken_in (number_of p.deed) (part_entries p) in (
      entries_counted content counted (number_of p.deed) (part_entries p) (each_front (IsHeld content counted) own (taken_by ps) a),
      parts_counted content counted ps (each_behind (IsHeld content counted) own (taken_by ps) a),
    )

stints_counted : (content : ℕ → ℕ → List ℕ) (counted : ℕ → ℕ → Bool) (stints : List Stint) → Each (IsHeld content counted) (all_taken stints) → AllCounted content counted stints
stints_counted content counted [] a = tt
stints_counted content counted (stint ∷ stints) a = (
  parts_counted content counted stint.parts (each_front (IsHeld content counted) (taken_by stint.parts) (all_taken stints) a),
  stints_counted content counted stints (each_behind (IsHeld content counted) (taken_by stint.parts) (all_taken stints) a),
)

pub counted : CountedLaw
counted = λ content stints apart. stints_counted content (counted_by content (all_taken stints)) stints (all_held content (all_taken stints) apart)
