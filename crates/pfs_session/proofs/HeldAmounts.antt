-- Amounts that are held, added one after another.
use Rattle.std.proofs.Common.{ℕ, zero, suc, ◌≡◌, ◌<◌, ◌≤◌, ◌+◌, List, [], ◌∷◌, ◌++◌, Option, Some, None, true, false, is_some, length, take, drop, slice_index_or, slice_set, replicate, refl, ap, sym, ◌∙◌, subst, arith}
use Rattle.std.proofs.lemmas.List.{append_assoc, append-nil, take_more, take-append-drop, length-take-le}
use Rattle.std.proofs.Common.{length-append}
use Rattle.std.proofs.lemmas.Bool.{true≢false, false≢true}
use Rattle.pfs_event.specs.declared.entry.Entry.TheVariants as says
use Rattle.pfs_levels.specs.Calls.{Call, Puts, Takes, Opening, Goes}
use Rattle.pfs_levels.specs.RowWords.{merged}
use Rattle.pfs_event.specs.Logs.{Journal}
use Rattle.pfs_levels.proofs.MoveLists.{did_none, did_then, did_as, goes_two}
use Rattle.pfs_stat.specs.declared.Stat.{Stat}
use Rattle.pfs_session.specs.SessionStates.{State, Owed, owed_of, nothing_held}
use Rattle.pfs_session.specs.Settlements.{owed_from, owed_in, owed_by_state, settle_cost, Paid, pay_calls, pay_entries, paid_calls, paid_entries, owed_by, Pays}

pub pays_one : (row version next : ℕ) (found content : List ℕ) (amount : Stat) (old new : Journal) (was mid now : Opening → List Call → Type 0)
    → Goes was mid (Takes row version found ∷ []) → Goes mid now (Puts row content next ∷ []) → content ≡ merged found amount → next ≡ version + 1
    → new.entries ≡ old.entries ++ says.Add row next ∷ [] → Pays (record { row = row; amount = amount } ∷ []) old new was now
pays_one row version next found content amount old new was mid now t p c n e = record {
  paid = record { owed = record { row = row; amount = amount }; version = version; found = found } ∷ [];
  owed_are = refl;
  did = record {
    entries_are = subst (λ z. new.entries ≡ old.entries ++ says.Add row z ∷ []) n e;
    goes = goes_two (Takes row version found) (Puts row (merged found amount) (version + 1)) was mid now t
        (subst (λ z. Goes mid now (Puts row (merged found amount) z ∷ [])) n (subst (λ z. Goes mid now (Puts row z next ∷ [])) c p));
  };
}

calls_then : (ys xs : List Paid) → paid_calls (ys ++ xs) ≡ paid_calls ys ++ paid_calls xs
calls_then [] xs = refl
calls_then (y ∷ ys) xs = ap (λ z. pay_calls y ++ z) (calls_then ys xs) ∙ sym (append_assoc (pay_calls y) (paid_calls ys) (paid_calls xs))

entries_then : (ys xs : List Paid) → paid_entries (ys ++ xs) ≡ paid_entries xs ++ paid_entries ys
entries_then [] xs = sym (append-nil (paid_entries xs))
entries_then (y ∷ ys) xs =
    ap (λ z. z ++ pay_entries y) (entries_then ys xs) ∙ append_assoc (paid_entries xs) (paid_entries ys) (pay_entries y)

by_then : (ys xs : List Paid) → owed_by (ys ++ xs) ≡ owed_by xs ++ owed_by ys
by_then [] xs = sym (append-nil (owed_by xs))
by_then (y ∷ ys) xs = ap (λ z. z ++ y.owed ∷ []) (by_then ys xs) ∙ append_assoc (owed_by xs) (owed_by ys) (y.owed ∷ [])

pub pays_none : (log : Journal) (was : Opening → List Call → Type 0) → Pays [] log log was was
pays_none log was = record { paid = []; owed_are = refl; did = did_none log was }

pub pays_then : (a b : List Owed) (old at new : Journal) (was mid now : Opening → List Call → Type 0) → Pays a old at was mid → Pays b at new mid now
    → Pays (a ++ b) old new was now
pays_then a b old at new was mid now p q = record {
  paid = q.paid ++ p.paid;
  owed_are = by_then q.paid p.paid ∙ (ap (λ z. z ++ owed_by q.paid) p.owed_are ∙ ap (λ z. a ++ z) q.owed_are);
  did = did_as _ _ _ _ old new was now (sym (calls_then q.paid p.paid)) (sym (entries_then q.paid p.paid))
      (did_then _ _ _ _ old at new was mid now p.did q.did);
}

pub pays_as : (a b : List Owed) (old new : Journal) (was now : Opening → List Call → Type 0) → a ≡ b → Pays a old new was now → Pays b old new was now
pays_as a b old new was now e p = subst (λ z. Pays z old new was now) e p

-- what is owed of a list's front, and of its next place
owed_then : (slot cell : ℕ) (xs ys : List (Option Stat)) → owed_from slot cell (xs ++ ys) ≡ owed_from slot cell xs ++ owed_from slot (cell + length xs) ys
unfolding owed_from
owed_then slot cell [] ys = ap (λ n. owed_from slot n ys) (omega arith)
owed_then slot cell (x ∷ xs) ys =
    let n : cell + 1 + length xs ≡ cell + length (x ∷ xs) = omega arith in
    ap (λ z. owed_of slot cell x ++ z) (owed_then slot (cell + 1) xs ys ∙ ap (λ m. owed_from slot (cell + 1) xs ++ owed_from slot m ys) n)
    ∙ sym (append_assoc (owed_of slot cell x) (owed_from slot (cell + 1) xs) (owed_from slot (cell + length (x ∷ xs)) ys))

owed_one : (slot cell : ℕ) (x : Option Stat) → owed_from slot cell (x ∷ []) ≡ owed_of slot cell x
unfolding owed_from
owed_one slot cell x = append-nil (owed_of slot cell x)

len_take : (xs : List (Option Stat)) (i : ℕ) → i ≤ length xs → length (take i xs) ≡ i
len_take xs i le = length-take-le i xs le

pub owed_more : (slot : ℕ) (xs : List (Option Stat)) (i : ℕ) (d : Option Stat) → i < length xs
    → owed_from slot 0 (take (i + 1) xs) ≡ owed_from slot 0 (take i xs) ++ owed_of slot i (slice_index_or xs i d)
owed_more slot xs i d lt =
    ap (owed_from slot 0) (take_more xs i d lt) ∙ owed_then slot 0 (take i xs) (slice_index_or xs i d ∷ [])
    ∙ ap (λ n. owed_from slot 0 (take i xs) ++ owed_from slot n (slice_index_or xs i d ∷ [])) (omega (arith, len_take xs i (omega (arith, lt))))
    ∙ ap (λ z. owed_from slot 0 (take i xs) ++ z) (owed_one slot i (slice_index_or xs i d))

pub owed_fit : (slot : ℕ) (xs : List (Option Stat)) (i : ℕ) → length (owed_from slot 0 (take i xs)) ≤ length (owed_from slot 0 xs)
owed_fit slot xs i =
    subst (λ z. length (owed_from slot 0 (take i xs)) ≤ length (owed_from slot 0 z)) (take-append-drop i xs)
    (omega (arith, ap length (owed_then slot 0 (take i xs) (drop i xs)), length-append (owed_from slot 0 (take i xs)) (owed_from slot (0 + length (take i xs)) (drop i xs))))

pub no_option : {A : Type 0} (x : Option A) → is_some x ≡ false → x ≡ None
no_option None e = refl
no_option (Some x) e = absurd (true≢false e)

owed_some : (slot cell : ℕ) (x : Option Stat) → is_some x ≡ true → 0 < length (owed_of slot cell x)
owed_some slot cell None e = absurd (false≢true e)
owed_some slot cell (Some amount) e = omega arith

-- something is owed where something is held
pub owed_there : (slot : ℕ) (xs : List (Option Stat)) (i : ℕ) → i < length xs → is_some (slice_index_or xs i None) ≡ true → 0 < length (owed_from slot 0 xs)
owed_there slot xs i lt some =
    omega (
      arith,
      ap length (owed_more slot xs i None lt),
      length-append (owed_from slot 0 (take i xs)) (owed_of slot i (slice_index_or xs i None)),
      owed_some slot i (slice_index_or xs i None) some,
      owed_fit slot xs (i + 1),
    )

pub owed_same : (slot : ℕ) (xs : List (Option Stat)) (i : ℕ) → i < length xs → slice_index_or xs i None ≡ None
    → owed_from slot 0 (take (i + 1) xs) ≡ owed_from slot 0 (take i xs)
owed_same slot xs i lt is =
    owed_more slot xs i None lt ∙ ap (λ z. owed_from slot 0 (take i xs) ++ owed_of slot i z) is ∙ append-nil (owed_from slot 0 (take i xs))

pub owed_nothing : (slot cell : ℕ) → owed_from slot cell [] ≡ []
unfolding owed_from
owed_nothing slot cell = refl

-- what a cell holds was added behind the cells before it
pub pays_more : (slot : ℕ) (xs : List (Option Stat)) (i : ℕ) (d : Option Stat) (old at new : Journal) (was mid now : Opening → List Call → Type 0) → i < length xs
    → Pays (owed_from slot 0 (take i xs)) old at was mid → Pays (owed_of slot i (slice_index_or xs i d)) at new mid now
    → Pays (owed_from slot 0 (take (i + 1) xs)) old new was now
pays_more slot xs i d old at new was mid now lt p q =
    pays_as _ _ old new was now (sym (owed_more slot xs i d lt)) (pays_then _ _ old at new was mid now p q)

pub length_more : (slot : ℕ) (xs : List (Option Stat)) (i : ℕ) (d : Option Stat) → i < length xs
    → length (owed_from slot 0 (take i xs)) + length (owed_of slot i (slice_index_or xs i d)) ≡ length (owed_from slot 0 (take (i + 1) xs))
length_more slot xs i d lt =
    sym (length-append (owed_from slot 0 (take i xs)) (owed_of slot i (slice_index_or xs i d))) ∙ ap length (sym (owed_more slot xs i d lt))

-- what is left is enough for the next cell
pub enough : (slot : ℕ) (xs : List (Option Stat)) (i have now : ℕ) (d : Option Stat) → i < length xs → length (owed_from slot 0 xs) ≤ have
    → have ≤ now + length (owed_from slot 0 (take i xs)) → length (owed_of slot i (slice_index_or xs i d)) ≤ now
enough slot xs i have now d lt le used = omega (arith, length_more slot xs i d lt, owed_fit slot xs (i + 1), le, used)

owed_few : (slot cell : ℕ) (x : Option Stat) → length (owed_of slot cell x) ≤ 1
owed_few slot cell None = omega arith
owed_few slot cell (Some amount) = omega arith

-- what is held in one place more or otherwise is one amount more at most
owed_set : (slot cell : ℕ) (xs : List (Option Stat)) (i : ℕ) (x : Option Stat)
    → length (owed_from slot cell (slice_set xs i x)) ≤ length (owed_from slot cell xs) + 1
unfolding owed_from
owed_set slot cell [] i x = omega arith
owed_set slot cell (y ∷ ys) zero x =
    omega (
      arith,
      length-append (owed_of slot cell x) (owed_from slot (cell + 1) ys),
      length-append (owed_of slot cell y) (owed_from slot (cell + 1) ys),
      owed_few slot cell x,
    )
owed_set slot cell (y ∷ ys) (suc i) x =
    omega (
      arith,
      length-append (owed_of slot cell y) (owed_from slot (cell + 1) (slice_set ys i x)),
      length-append (owed_of slot cell y) (owed_from slot (cell + 1) ys),
      owed_set slot (cell + 1) ys i x,
    )

pub owed_brought : (thread : Option ℕ) (cell : ℕ) (held there : List (Option Stat)) (x : Option Stat) → there ≡ slice_set held cell x
    → length (owed_in thread there) ≤ length (owed_in thread held) + 1
owed_brought None cell held there x e = omega arith
owed_brought (Some slot) cell held there x e =
    subst (λ z. length (owed_from slot 0 z) ≤ length (owed_from slot 0 held) + 1) (sym e) (owed_set slot 0 held cell x)

-- behind an addition that was tried a session owes one amount more at most
pub finish_owes : (cell : ℕ) (old at : State) (here there last : List (Option Stat)) (x : Option Stat) → at ≡ old → here ≡ at.held
    → there ≡ slice_set here cell x → last ≡ there → length (owed_in at.place.thread last) ≤ length (owed_by_state old) + 1
finish_owes cell old at here there last x e h b n =
    let P : List (Option Stat) → Type 0 = λ z. there ≡ slice_set z cell x in
    omega (
      arith,
      owed_brought at.place.thread cell at.held there x (subst P h b),
      ap (λ z. length (owed_in at.place.thread z)) n,
      ap (λ z. length (owed_by_state z)) e,
    )

-- a session that holds nothing owes nothing
none_owed : (slot cell n : ℕ) → owed_from slot cell (replicate n None) ≡ []
unfolding owed_from
none_owed slot cell zero = refl
none_owed slot cell (suc n) = none_owed slot (cell + 1) n

pub nothing_owed : (slot : Option ℕ) → owed_in slot nothing_held ≡ []
nothing_owed None = refl
nothing_owed (Some slot) = none_owed slot 0 193

-- what settling costs
pub settle_few : (owed : List Owed) → settle_cost owed ≤ length owed + 1
settle_few [] = omega arith
settle_few (one ∷ others) = omega arith
