-- A slot is one session's, and no place has more connections than it has had.
use Rattle.std.proofs.Common.{ℕ, zero, suc, ◌≡◌, ◌≤◌, ◌<◌, ◌+◌, ◌==◌, Bool, true, false, cond, List, [], ◌∷◌, length, replicate, Option, Some, None, IfSome, slice_index_or, refl, sym, ap, subst, ◌∙◌, arith, ne_eqb, inl, inr, eqb-true}
use Rattle.std.proofs.lemmas.Bool.{cases_lt}
use Rattle.pfs_lemmas.proofs.Options.{some_same}
use Rattle.pfs_containers.specs.declared.containers.Connection.{Connection}
use Rattle.pfs_containers.specs.declared.containers.Seated.{Seated}
use Rattle.pfs_containers.specs.Connections.{is_from, has_by, entry_at, fill_at, emptied_at, stepped}
use Rattle.pfs_containers.specs.Administration.{Containers, Found, found_where, one_up, current, lowest_free, next_place, added_from, session_of, connect_at, quit_line}
use Rattle.pfs_containers.specs.ContainerState.{AreWithin, seat_by, seated}
use Rattle.pfs_containers.specs.PlaceLaws.{IsOneMore, ConnectLaw, QuitLaw}

no_some : (n : ℕ) → ◌≡◌ {A = Option ℕ} None (Some n) → ⊥
no_some n h = cc

-- the lowest free slot is free, also in a longer list
abbrev IsNextFree : List (Option Connection) → Connection → ℕ → Type 0
IsNextFree xs x slot = (t : ℕ) × ((slot ≡ suc t) × (lowest_free xs ≡ Some t))

next_free : (xs : List (Option Connection)) (x : Connection) (slot : ℕ) (o : Option ℕ) → lowest_free xs ≡ o → next_place o ≡ Some slot → IsNextFree xs x slot
next_free xs x slot None q h = absurd (no_some slot h)
next_free xs x slot (Some t) q h = (t, (sym (some_same (suc t) slot h), q))

pub free_none : (slot : ℕ) (xs : List (Option Connection)) → lowest_free xs ≡ Some slot → entry_at xs slot ≡ None
free_none slot [] h = refl
free_none slot (None ∷ xs) h = ap (λ n. entry_at (None ∷ xs) n) (sym (some_same 0 slot h))
free_none slot (Some y ∷ xs) h =
    let next : IsNextFree xs y slot = next_free xs y slot (lowest_free xs) refl h in
    ap (λ n. entry_at (Some y ∷ xs) n) next.1.0 ∙ free_none next.0 xs next.1.1

pub free_filled : (slot : ℕ) (x : Connection) (xs : List (Option Connection)) → lowest_free xs ≡ Some slot → entry_at (fill_at slot x xs) slot ≡ Some x
free_filled slot x [] h = absurd (no_some slot h)
free_filled slot x (None ∷ xs) h = ap (λ n. entry_at (fill_at n x (None ∷ xs)) n) (sym (some_same 0 slot h))
free_filled slot x (Some y ∷ xs) h =
    let next : IsNextFree xs y slot = next_free xs y slot (lowest_free xs) refl h in
    ap (λ n. entry_at (fill_at n x (Some y ∷ xs)) n) next.1.0 ∙ free_filled next.0 x xs next.1.1

pub filled_others : (slot other : ℕ) (x : Connection) (xs : List (Option Connection)) → (other ≡ slot → ⊥) → entry_at (fill_at slot x xs) other ≡ entry_at xs other
filled_others slot other x [] ne = refl
filled_others zero zero x (y ∷ xs) ne = absurd (ne refl)
filled_others zero (suc other) x (y ∷ xs) ne = refl
filled_others (suc slot) zero x (y ∷ xs) ne = refl
filled_others (suc slot) (suc other) x (y ∷ xs) ne = filled_others slot other x xs (λ e. ne (ap suc e))

pub filled_count : (which : Connection → Option ℕ) (place slot : ℕ) (x : Connection) (xs : List (Option Connection)) → lowest_free xs ≡ Some slot
    → current which (fill_at slot x xs) place ≡ current which xs place + cond (is_from place (which x)) 1 0
filled_count which place slot x [] h = absurd (no_some slot h)
filled_count which place slot x (None ∷ xs) h =
    subst (λ t. current which (fill_at t x (None ∷ xs)) place ≡ current which (None ∷ xs) place + cond (is_from place (which x)) 1 0) (some_same 0 slot h) (omega arith)
filled_count which place slot x (Some y ∷ xs) h =
    let next : IsNextFree xs y slot = next_free xs y slot (lowest_free xs) refl h in
    subst (λ k. current which (fill_at k x (Some y ∷ xs)) place ≡ current which (Some y ∷ xs) place + cond (is_from place (which x)) 1 0) (sym next.1.0)
    (omega (arith, filled_count which place next.0 x xs next.1.1))

pub emptied_none : (slot : ℕ) (xs : List (Option Connection)) → entry_at (emptied_at slot xs) slot ≡ None
emptied_none slot [] = refl
emptied_none zero (x ∷ xs) = refl
emptied_none (suc slot) (x ∷ xs) = emptied_none slot xs

pub emptied_others : (slot other : ℕ) (xs : List (Option Connection)) → (other ≡ slot → ⊥) → entry_at (emptied_at slot xs) other ≡ entry_at xs other
emptied_others slot other [] ne = refl
emptied_others zero zero (y ∷ xs) ne = absurd (ne refl)
emptied_others zero (suc other) (y ∷ xs) ne = refl
emptied_others (suc slot) zero (y ∷ xs) ne = refl
emptied_others (suc slot) (suc other) (y ∷ xs) ne = emptied_others slot other xs (λ e. ne (ap suc e))

pub emptied_count : (which : Connection → Option ℕ) (place slot : ℕ) (xs : List (Option Connection))
    → current which xs place ≡ current which (emptied_at slot xs) place + cond (has_by which place (entry_at xs slot)) 1 0
emptied_count which place slot [] = omega arith
emptied_count which place zero (x ∷ xs) = omega arith
emptied_count which place (suc slot) (x ∷ xs) = omega (arith, emptied_count which place slot xs)

-- a number for each place: one more there is one more connection at most
added_read : (n k : ℕ) (place : Option ℕ) (totals : List ℕ) → k < length totals
    → slice_index_or (added_from n place totals) k 0 ≡ slice_index_or totals k 0 + cond (is_from (n + k) place) 1 0
added_read n k place [] l = absurd (omega (arith, l))
added_read n zero place (total ∷ totals) l =
    let same : n ≡ n + 0 = omega arith in
    subst (λ z. cond (is_from n place) 1 0 + total ≡ total + cond (is_from z place) 1 0) same (omega arith)
added_read n (suc k) place (total ∷ totals) l =
    let same : suc n + k ≡ n + suc k = omega arith in
    subst (λ z. slice_index_or (added_from (suc n) place totals) k 0 ≡ slice_index_or totals k 0 + cond (is_from z place) 1 0) same
    (added_read (suc n) k place totals (omega (arith, l)))

pub past_read : (k : ℕ) (totals : List ℕ) → length totals ≤ k → slice_index_or totals k 0 ≡ 0
past_read k [] l = refl
past_read zero (x ∷ totals) l = absurd (omega (arith, l))
past_read (suc k) (x ∷ totals) l = past_read k totals (omega (arith, l))

not_past : (k most : ℕ) (place : Option ℕ) → most ≤ k → IfSome place (λ p. p < most) → is_from k place ≡ false
not_past k most None l inside = refl
not_past k most (Some p) l inside = ne_eqb p k (λ e. absurd (omega (arith, l, inside, e)))

pub within_seat : (which : Connection → Option ℕ) (slot : ℕ) (x : Connection) (xs : List (Option Connection)) (totals : List ℕ) → lowest_free xs ≡ Some slot
    → IfSome (which x) (λ p. p < length totals) → AreWithin which xs totals → AreWithin which (fill_at slot x xs) (added_from 0 (which x) totals)
within_seat which slot x xs totals free inside within place = elim (cases_lt place (length totals)) [
  | inl l ↦ let same : 0 + place ≡ place = omega arith in
      omega (arith, filled_count which place slot x xs free, within place, subst (λ z. slice_index_or (added_from 0 (which x) totals) place 0 ≡ slice_index_or totals place 0 + cond (is_from z (which x)) 1 0) same (added_read 0 place (which x) totals l))
  | inr l ↦ omega (arith, filled_count which place slot x xs free, within place, past_read place totals l, ap (λ b. cond {A = ℕ} b 1 0) (not_past place (length totals) (which x) l inside))
]

pub within_empty : (which : Connection → Option ℕ) (slot : ℕ) (xs : List (Option Connection)) (totals : List ℕ) → AreWithin which xs totals → AreWithin which (emptied_at slot xs) totals
within_empty which slot xs totals within place = omega (arith, emptied_count which place slot xs, within place)

none_now : (which : Connection → Option ℕ) (n place : ℕ) → current which (replicate n None) place ≡ 0
none_now which zero place = refl
none_now which (suc n) place = omega (arith, none_now which n place)

pub within_free : (which : Connection → Option ℕ) (n : ℕ) (totals : List ℕ) → AreWithin which (replicate n None) totals
within_free which n totals place = omega (arith, none_now which n place)

-- what a connect takes
one_more : (slot : ℕ) (x : Connection) (xs : List (Option Connection)) → lowest_free xs ≡ Some slot → IsOneMore slot x xs (fill_at slot x xs)
one_more slot x xs free = record {
  free = free_none slot xs free;
  own = free_filled slot x xs free;
  others = λ other ne. filled_others slot other x xs ne;
  counts = λ which place. filled_count which place slot x xs free;
}

seat_slot : (a b : Seated) → Some a ≡ Some b → a ≡ b
seat_slot a b h = cc

no_seat : (seat : Seated) → ◌≡◌ {A = Option Seated} None (Some seat) → ⊥
no_seat seat h = cc

connects_at : (a : Containers) (number user host : ℕ) (o : Option ℕ) → lowest_free a.places.threads ≡ o
    → ((seat : Seated) → seat_by a number user host o ≡ Some seat → IsOneMore seat.slot seat.connection a.places.threads (connect_at a number user host o).places.threads)
    × (seat_by a number user host o ≡ None → (connect_at a number user host o).places.threads ≡ a.places.threads)
connects_at a number user host None free = (λ seat h. absurd (no_seat seat h), λ h. refl)
connects_at a number user host (Some slot) free = (
  λ seat h. subst (λ (s : Seated). IsOneMore s.slot s.connection a.places.threads (fill_at slot (session_of a.places number user host) a.places.threads))
      (seat_slot (record { slot = slot; connection = session_of a.places number user host }) seat h) (one_more slot (session_of a.places number user host) a.places.threads free),
  λ h. absurd (no_seat (record { slot = slot; connection = session_of a.places number user host }) (sym h)),
)

pub connect_law : ConnectLaw
connect_law a number user host = connects_at a number user host (lowest_free a.places.threads) refl

-- what a quit frees: an entry that was found stands at its place, and passes the test
abbrev StandsAt : (Connection → Bool) → List (Option Connection) → Option (Found Connection) → Type 0
StandsAt test xs None = Unit {0}
StandsAt test xs (Some found) = (entry_at xs found.place ≡ Some found.entry) × (test found.entry ≡ true)

stands_up : (test : Connection → Bool) (x : Option Connection) (xs : List (Option Connection)) (found : Option (Found Connection)) → StandsAt test xs found
    → StandsAt test (x ∷ xs) (one_up found)
stands_up test x xs None h = tt
stands_up test x xs (Some found) h = h

stands_first : (test : Connection → Bool) (x : Connection) (xs : List (Option Connection)) (b : Bool) → test x ≡ b → (found : Option (Found Connection)) → StandsAt test xs found
    → StandsAt test (Some x ∷ xs) (cond b (Some (record { place = 0; entry = x })) (one_up found))
stands_first test x xs true e found h = (refl, e)
stands_first test x xs false e found h = stands_up test (Some x) xs found h

stands : (test : Connection → Bool) (xs : List (Option Connection)) → StandsAt test xs (found_where test xs)
stands test [] = tt
stands test (None ∷ xs) = stands_up test None xs (found_where test xs) (stands test xs)
stands test (Some x ∷ xs) = stands_first test x xs (test x) refl (found_where test xs) (stands test xs)

one_less : (slot : ℕ) (x : Connection) (xs : List (Option Connection)) → entry_at xs slot ≡ Some x → IsOneMore slot x (emptied_at slot xs) xs
one_less slot x xs is = record {
  free = emptied_none slot xs;
  own = is;
  others = λ other ne. sym (emptied_others slot other xs ne);
  counts = λ which place. emptied_count which place slot xs
      ∙ ap (λ z. current which (emptied_at slot xs) place + cond (has_by which place z) 1 0) is;
}

quits_at : (a : Containers) (number : ℕ) (found : Option (Found Connection)) → StandsAt (λ x. x.number == number) a.places.threads found
    → ((seat : Seated) → seated found ≡ Some seat → (seat.connection.number ≡ number)
    × IsOneMore seat.slot seat.connection (stepped a.places (quit_line found)).threads a.places.threads)
    × (seated found ≡ None → (stepped a.places (quit_line found)).threads ≡ a.places.threads)
quits_at a number None h = (λ seat e. absurd (no_seat seat e), λ e. refl)
quits_at a number (Some found) h = (
  λ seat e. subst (λ (s : Seated). (s.connection.number ≡ number) × IsOneMore s.slot s.connection (emptied_at found.place a.places.threads) a.places.threads)
      (seat_slot (record { slot = found.place; connection = found.entry }) seat e)
      (eqb-true found.entry.number number h.1, one_less found.place found.entry a.places.threads h.0),
  λ e. absurd (no_seat (record { slot = found.place; connection = found.entry }) (sym e)),
)

pub quit_law : QuitLaw
quit_law a number = quits_at a number (found_where (λ x. x.number == number) a.places.threads) (stands (λ x. x.number == number) a.places.threads)
