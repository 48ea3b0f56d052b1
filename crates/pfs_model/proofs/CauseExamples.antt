-- Worked examples: what `held`, `busy`, `late` and `vacant` lines show.
use Rattle.std.proofs.Common.{◌≡◌, refl, ap, ℕ, ◌<◌, ◌≤◌, ◌%◌, true, false, List, [], ◌∷◌, inl, inr, lit<, lit≤, arith}
use Rattle.pfs_event.specs.declared.entry.Entry.TheVariants as says
use Rattle.pfs_model.specs.declared.changes.Change.{Change}
use Rattle.pfs_model.specs.Causes.{AreBusy, IsCaused, IsHeldByOther, IsLate, WasFree}
use Rattle.pfs_model.specs.Chains.{change_at}
use Rattle.pfs_model.specs.EntryPlaces.{Placed}
use Rattle.pfs_model.proofs.ExampleEntries.{entry_of, acted}

-- the words of a `held` line: DIRTY and the same, or one that has moved on
dirty : AreBusy 29 29
dirty = inl (refl, refl)

moved_on : AreBusy 29 34
moved_on = inr (λ same. cc, lit≤ tt, λ same. let no : 8 ≡ 7 = same in absurd (omega (arith, no)))

not_busy : AreBusy 30 30 → ⊥
not_busy (inl same) = let one : 30 % 4 ≡ 1 = same.0 in cc
not_busy (inr other) = other.0 refl

-- taken and put back by the same session, between the two words
put_back : AreBusy 29 30 → ⊥
put_back (inl same) = let two : 30 ≡ 29 = same.1 in absurd (omega (arith, two))
put_back (inr other) = let no : 2 ≡ 2 → ⊥ = other.2 refl in no refl

-- Session 1 takes a digest's row and adds to it, and session 2 finds the row ALLOCATED at version 1 and then at 2: its
-- take was refused by the change between.
abbrev moving : ℕ → List Placed
moving other = acted 1 2 (says.Take 8387 1) ∷ entry_of other (says.Add 8387 2) ∷ entry_of 2 (says.Held 8387 6 10) ∷ entry_of 2 (says.Add 8387 3) ∷ []

only_second : (version : ℕ) → 1 < version → version ≤ 2 → change_at 8387 2 ≡ change_at 8387 version
only_second version low high = let two : 2 ≡ version = omega (arith, low, high) in ap (λ v. change_at 8387 v) two

held_moving : IsCaused (moving 1) [] (entry_of 2 (says.Held 8387 6 10)) 8387 6 10
held_moving = record {
  first_is = record { state = lit< tt; floor = lit≤ tt; had = lit≤ tt };
  second_is = record { state = lit< tt; floor = lit≤ tt; had = lit≤ tt };
  words = inr (λ same. cc, lit≤ tt, λ same. let no : 2 ≡ 1 = same in absurd (omega (arith, no)));
  between = λ version low high. inr (inl (only_second version low high));
  first_held = λ is. let no : 2 ≡ 1 = is in absurd (omega (arith, no));
  second_held = λ is. let no : 2 ≡ 1 = is in absurd (omega (arith, no));
  freed = λ is. let no : 2 ≡ 0 = is in absurd (omega (arith, no));
}

-- the change between may not be the session's own
own_between : IsCaused (moving 2) [] (entry_of 2 (says.Held 8387 6 10)) 8387 6 10 → ⊥
own_between is = elim (is.between 2 (lit< tt) (lit≤ tt)) [
  | inl first ↦ let no : 1 ≡ 2 = ap (λ (c : Change). c.version) first in absurd (omega (arith, no))
  | inr none ↦ none
]

-- a version below the floor: the session had added version 2 itself
below_floor : IsCaused (moving 2) (entry_of 2 (says.Add 8387 2) ∷ []) (entry_of 2 (says.Held 8387 6 10)) 8387 6 10 → ⊥
below_floor is = let low : 2 ≤ 1 = is.first_is.floor in absurd (omega (arith, low))

-- a version that the row never had
never_had : IsCaused (moving 1) [] (entry_of 2 (says.Held 8387 6 18)) 8387 6 18 → ⊥
never_had is = let had : 4 ≤ 3 = is.second_is.had in absurd (omega (arith, had))

-- a row that another has in hand at version 2: the other puts it back as version 3
abbrev in_hand : ℕ → List Placed
in_hand other = entry_of 1 (says.Add 8387 1) ∷ acted 1 4 (says.Take 8387 2) ∷ entry_of other (says.Add 8387 3) ∷ entry_of 2 (says.Held 8387 9 9) ∷ []

held_in_hand : IsCaused (in_hand 1) [] (entry_of 2 (says.Held 8387 9 9)) 8387 9 9
held_in_hand = record {
  first_is = record { state = lit< tt; floor = lit≤ tt; had = lit≤ tt };
  second_is = record { state = lit< tt; floor = lit≤ tt; had = lit≤ tt };
  words = inl (refl, refl);
  between = λ version low high. let no : 2 < version = low in absurd (omega (arith, no, high));
  first_held = λ is. inl (inr (inr (inl refl)));
  second_held = λ is. inl (inr (inr (inl refl)));
  freed = λ is. let no : 1 ≡ 0 = is in absurd (omega (arith, no));
}

-- it can't be the session itself that had the row in hand
own_hand : IsHeldByOther (in_hand 2) (entry_of 2 (says.Held 8387 9 9)) 8387 9 → ⊥
own_hand is = elim (is refl) [
  | inl others ↦ elim others [
    | inl first ↦ let no : 1 ≡ 3 = ap (λ (c : Change). c.version) first in absurd (omega (arith, no))
    | inr more ↦ elim more [
      | inl second ↦ let no : 2 ≡ 3 = ap (λ (c : Change). c.version) second in absurd (omega (arith, no))
      | inr none ↦ none
    ]
  ]
  | inr none ↦ none
]

-- or the other released it there
released_in_hand : IsHeldByOther (acted 1 2 (says.Free 8450 1) ∷ []) (entry_of 2 (says.Busy 8450 5 5)) 8450 5
released_in_hand = λ is. inr (inl refl)

-- session 4 comes late with ticket 2, where session 5 has put 1002: both belong to that place
abbrev late : ℕ → List Placed
late other = entry_of 4 (says.Late 10244 2 1002) ∷ entry_of other (says.Long 10244 1 1002) ∷ []

came_late : IsLate (late 5) [] (entry_of 4 (says.Late 10244 2 1002)) 10244 2 1002
came_late = record { above = lit< tt; own = refl; same = refl; put = inl (refl, refl, lit≤ tt) }

own_ticket : IsLate (late 4) [] (entry_of 4 (says.Late 10244 2 1002)) 10244 2 1002 → ⊥
own_ticket is = is.put

other_place : IsLate (late 5) [] (entry_of 4 (says.Late 10244 2 1003)) 10244 2 1003 → ⊥
other_place is = let no : 10244 ≡ 10245 = is.same in absurd (omega (arith, no))

late_below_floor : IsLate (late 5) (entry_of 4 (says.Seen 10244 2) ∷ []) (entry_of 4 (says.Late 10244 2 1002)) 10244 2 1002 → ⊥
late_below_floor is = elim is.put [
  | inl put ↦ let low : 2 ≤ 1 = put.2 in absurd (omega (arith, low))
  | inr none ↦ none
]

-- a row is vacant where it opened FREE and the session has seen nothing of it, or was released at or above the floor,
-- by whomever
opened_free : WasFree [] [] (entry_of 1 (says.Vacant 3)) 3
opened_free = inl (refl, refl)

cell_vacant : WasFree [] [] (entry_of 1 (says.Vacant 135)) 135 → ⊥
cell_vacant (inl opens) = let no : false ≡ true = opens.0 in cc
cell_vacant (inr none) = none

released : WasFree (acted 2 5 (says.Free 1 3) ∷ []) (entry_of 1 (says.Seen 1 3) ∷ []) (entry_of 1 (says.Vacant 1)) 1
released = inr (inl (refl, lit≤ tt))

released_below : WasFree (acted 2 5 (says.Free 1 2) ∷ []) (entry_of 1 (says.Seen 1 3) ∷ []) (entry_of 1 (says.Vacant 1)) 1 → ⊥
released_below (inl opens) = let no : 3 ≡ 0 = opens.1 in absurd (omega (arith, no))
released_below (inr (inl free)) = let low : 3 ≤ 2 = free.1 in absurd (omega (arith, low))
released_below (inr (inr none)) = none
