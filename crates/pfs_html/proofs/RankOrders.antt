-- The places of rows by time are those of the rows, and their times fall.
use Rattle.std.proofs.Common.{ℕ, zero, suc, ◌≡◌, ◌-◌, ◌<◌, ◌≤◌, ◌⊎◌, inl, inr, List, [], ◌∷◌, length, map, refl, ap, sym, subst, ◌∙◌, arith}
use Rattle.std.specs.Prelude.{fold, ◌^◌}
use Rattle.std.specs.BTreeMap.{insert_entry}
use Rattle.std.specs.Cmp.{nat_cmp_is}
use Rattle.std.specs.List.{All, AllByRecursion}
use Rattle.std.specs.List.Sorted.{IsPermutation}
use Rattle.std.specs.Ordering.{match_ordering, nat_cmp, ordering_then}
use Rattle.std.specs.declared.cmp.Ordering.{Ordering}
use Rattle.std.specs.declared.cmp.Ordering.TheVariants.{Less, Equal, Greater}
use Rattle.std.proofs.lemmas.Bool.{cases_lt}
use Rattle.std.proofs.lemmas.List.Sorted.{IsPermutation-cons, IsPermutation-middle, IsPermutation-push_more, IsPermutation-refl, IsPermutation-trans}
use Rattle.std.proofs.lemmas.List.Sums.{fold-append}
use Rattle.pfs_text.specs.declared.values.RowValue.{RowValue}
use Rattle.pfs_html.specs.Rankings.{by_time, number_at, rank_order, time_at, Falls}
use Rattle.pfs_html.specs.Cells.{places_below}

-- a key of two numbers, and a place
abbrev Entry : Type 0
Entry = (ℕ × ℕ) × ℕ

abbrev most : ℕ
most = 18446744073709551615

rank_less : (a b c d : ℕ) → a < b → rank_order (a, c) (b, d) ≡ Less
rank_less a b c d h = ap (λ (o : Ordering). ordering_then o (nat_cmp c d)) (sym (nat_cmp_is a b Less h))

greater_or : (a b c d : ℕ) → (b < a) ⊎ (a ≤ b) → b ≤ a → d < c → rank_order (a, c) (b, d) ≡ Greater
greater_or a b c d (inl h) low behind = ap (λ (o : Ordering). ordering_then o (nat_cmp c d)) (sym (nat_cmp_is a b Greater h))
greater_or a b c d (inr h) low behind =
    let same : a ≡ b = omega (arith, h, low) in
    ap (λ (o : Ordering). ordering_then o (nat_cmp c d)) (sym (nat_cmp_is a b Equal same)) ∙ sym (nat_cmp_is c d Greater behind)

rank_greater : (a b c d : ℕ) → b ≤ a → d < c → rank_order (a, c) (b, d) ≡ Greater
rank_greater a b c d low behind = greater_or a b c d (cases_lt b a) low behind

-- each entry has the key of its place, which is below this one
abbrev Keyed : (ℕ → ℕ) → ℕ → List Entry → Type 0
Keyed time n entries = AllByRecursion (λ (entry : Entry). (entry.0 ≡ (most - time entry.1, entry.1)) × (entry.1 < n)) entries

-- how a place is put before the rest, or behind the first of them
abbrev Placed : (ℕ → ℕ) → ℕ → Entry → List Entry → Type 0
Placed time n entry entries =
    ((time entry.1 < time n) × (insert_entry rank_order (entry ∷ entries) (most - time n, n) n ≡ ((most - time n, n), n) ∷ entry ∷ entries))
    ⊎ ((time n ≤ most → time n ≤ time entry.1) × (insert_entry rank_order (entry ∷ entries) (most - time n, n) n ≡ entry ∷ insert_entry rank_order entries (most - time n, n) n))

placed_or : (time : ℕ → ℕ) (n : ℕ) (entry : Entry) (entries : List Entry) → (entry.0 ≡ (most - time entry.1, entry.1)) × (entry.1 < n)
    → ((most - time n) < (most - time entry.1)) ⊎ ((most - time entry.1) ≤ (most - time n)) → Placed time n entry entries
placed_or time n entry entries keyed (inl h) =
    let key : ℕ × ℕ = (most - time n, n) in
    let order : rank_order key entry.0 ≡ Less = ap (rank_order key) keyed.0 ∙ rank_less (most - time n) (most - time entry.1) n entry.1 h in
    inl (omega (arith, h), ap (λ (o : Ordering). match_ordering o ((key, n) ∷ entry ∷ entries) ((entry.0, n) ∷ entries) (entry ∷ insert_entry rank_order entries key n)) order)
placed_or time n entry entries keyed (inr h) =
    let key : ℕ × ℕ = (most - time n, n) in
    let order : rank_order key entry.0 ≡ Greater = ap (rank_order key) keyed.0 ∙ rank_greater (most - time n) (most - time entry.1) n entry.1 h keyed.1 in
    inr (λ low. omega (arith, h, low), ap (λ (o : Ordering). match_ordering o ((key, n) ∷ entry ∷ entries) ((entry.0, n) ∷ entries) (entry ∷ insert_entry rank_order entries key n)) order)

placed : (time : ℕ → ℕ) (n : ℕ) (entry : Entry) (entries : List Entry) → (entry.0 ≡ (most - time entry.1, entry.1)) × (entry.1 < n) → Placed time n entry entries
placed time n entry entries keyed = placed_or time n entry entries keyed (cases_lt (most - time n) (most - time entry.1))

abbrev places_of : List Entry → List ℕ
places_of entries = map (λ (entry : Entry). entry.1) entries

abbrev put : (ℕ → ℕ) → List Entry → ℕ → List Entry
put time entries n = insert_entry rank_order entries (most - time n, n) n

-- what all places have, and the one that is put has
each_or : (time : ℕ → ℕ) (P : Entry → Type 0) (n : ℕ) (entry : Entry) (entries : List Entry) → Placed time n entry entries → P ((most - time n, n), n) → AllByRecursion P (entry ∷ entries) → AllByRecursion P (put time entries n) → AllByRecursion P (put time (entry ∷ entries) n)
each_or time P n entry entries (inl p) one all more = subst (AllByRecursion P) (sym p.1) (one, all)
each_or time P n entry entries (inr p) one all more = subst (AllByRecursion P) (sym p.1) (all.0, more)

each_put : (time : ℕ → ℕ) (P : Entry → Type 0) (n : ℕ) (entries : List Entry) → Keyed time n entries → P ((most - time n, n), n) → AllByRecursion P entries → AllByRecursion P (put time entries n)
each_put time P n [] keyed one all = (one, tt)
each_put time P n (entry ∷ entries) keyed one all = each_or time P n entry entries (placed time n entry entries keyed.0) one all (each_put time P n entries keyed.1 one all.1)

-- the places with the one that is put
perm_or : (time : ℕ → ℕ) (n : ℕ) (entry : Entry) (entries : List Entry) → Placed time n entry entries → IsPermutation (n ∷ places_of entries) (places_of (put time entries n)) → IsPermutation (n ∷ places_of (entry ∷ entries)) (places_of (put time (entry ∷ entries) n))
perm_or time n entry entries (inl p) more = subst (λ (es : List Entry). IsPermutation (n ∷ places_of (entry ∷ entries)) (places_of es)) (sym p.1) (IsPermutation-refl (n ∷ entry.1 ∷ places_of entries))
perm_or time n entry entries (inr p) more =
    subst (λ (es : List Entry). IsPermutation (n ∷ places_of (entry ∷ entries)) (places_of es)) (sym p.1)
    (IsPermutation-trans (n ∷ entry.1 ∷ places_of entries) (entry.1 ∷ n ∷ places_of entries) (entry.1 ∷ places_of (put time entries n))
    (IsPermutation-middle (n ∷ []) entry.1 (places_of entries)) (IsPermutation-cons entry.1 (n ∷ places_of entries) (places_of (put time entries n)) more))

perm_put : (time : ℕ → ℕ) (n : ℕ) (entries : List Entry) → Keyed time n entries → IsPermutation (n ∷ places_of entries) (places_of (put time entries n))
perm_put time n [] keyed = IsPermutation-refl (n ∷ [])
perm_put time n (entry ∷ entries) keyed = perm_or time n entry entries (placed time n entry entries keyed.0) (perm_put time n entries keyed.1)

-- each time is at least as great as all behind it
abbrev Sinks : (ℕ → ℕ) → List Entry → Type 0
Sinks time [] = Unit {0}
Sinks time (entry ∷ entries) = AllByRecursion (λ (e : Entry). time e.1 ≤ time entry.1) entries × Sinks time entries

lower : (time : ℕ → ℕ) (a b : ℕ) (entries : List Entry) → a ≤ b → AllByRecursion (λ (e : Entry). time e.1 ≤ a) entries → AllByRecursion (λ (e : Entry). time e.1 ≤ b) entries
lower time a b [] h all = tt
lower time a b (entry ∷ entries) h all = (omega (arith, h, all.0), lower time a b entries h all.1)

sinks_or : (time : ℕ → ℕ) (n : ℕ) (entry : Entry) (entries : List Entry) → time n ≤ most → Keyed time n entries → Placed time n entry entries → Sinks time (entry ∷ entries) → Sinks time (put time entries n) → Sinks time (put time (entry ∷ entries) n)
sinks_or time n entry entries low keyed (inl p) all more =
    let less : time entry.1 ≤ time n = omega (arith, p.0) in
    subst (Sinks time) (sym p.1) ((less, lower time (time entry.1) (time n) entries less all.0), all)
sinks_or time n entry entries low keyed (inr p) all more =
    subst (Sinks time) (sym p.1) (each_put time (λ (e : Entry). time e.1 ≤ time entry.1) n entries keyed (p.0 low) all.0, more)

sinks_put : (time : ℕ → ℕ) (n : ℕ) (entries : List Entry) → time n ≤ most → Keyed time n entries → Sinks time entries → Sinks time (put time entries n)
sinks_put time n [] low keyed all = (tt, tt)
sinks_put time n (entry ∷ entries) low keyed all = sinks_or time n entry entries low keyed.1 (placed time n entry entries keyed.0) all (sinks_put time n entries low keyed.1 all.1)

more_below : (time : ℕ → ℕ) (n : ℕ) (entries : List Entry) → Keyed time n entries → Keyed time (suc n) entries
more_below time n [] keyed = tt
more_below time n (entry ∷ entries) keyed = ((keyed.0.0, omega (arith, keyed.0.1)), more_below time n entries keyed.1)

-- what holds of the entries of the first places
record Ranked (time : ℕ → ℕ) (n : ℕ) (entries : List Entry) : Type 0 where
  pub keyed : Keyed time n entries
  pub perm : IsPermutation (places_below n) (places_of entries)
  pub sinks : Sinks time entries

ranked : (time : ℕ → ℕ) (n : ℕ) → ((k : ℕ) → k < n → time k ≤ most) → Ranked time n (fold (put time) [] (places_below n))
ranked time zero low = record { keyed = tt; perm = IsPermutation-refl []; sinks = tt }
ranked time (suc n) low =
    let before = fold (put time) [] (places_below n) in
    let r = ranked time n (λ k h. low k (omega (arith, h))) in
    let is : fold (put time) [] (places_below (suc n)) ≡ put time before n = fold-append (put time) [] (places_below n) (n ∷ []) in
    let low_here : time n ≤ most = low n (omega arith) in
    subst (Ranked time (suc n)) (sym is) (record {
      keyed = each_put time (λ (entry : Entry). (entry.0 ≡ (most - time entry.1, entry.1)) × (entry.1 < suc n)) n before r.keyed (refl, omega arith) (more_below time n before r.keyed);
      perm = IsPermutation-push_more (places_below n) (places_of before) (places_of (put time before n)) n r.perm (perm_put time n before r.keyed);
      sinks = sinks_put time n before low_here r.keyed r.sinks;
    })

falls_behind : (time : ℕ → ℕ) (entries : List Entry) (a : ℕ) → AllByRecursion (λ (e : Entry). time e.1 ≤ a) entries → AllByRecursion (λ (place : ℕ). time place ≤ a) (places_of entries)
falls_behind time [] a all = tt
falls_behind time (entry ∷ entries) a all = (all.0, falls_behind time entries a all.1)

falls : (time : ℕ → ℕ) (entries : List Entry) → Sinks time entries → Falls time (places_of entries)
falls time [] all = tt
falls time (entry ∷ entries) all = (falls_behind time entries (time entry.1) all.0, falls time entries all.1)

pub ranks_right : (column : ℕ) (rows : List (List RowValue)) → All (λ (row : List RowValue). number_at column row < 2 ^ 64) rows
    → IsPermutation (places_below (length rows)) (by_time column rows) × Falls (time_at column rows) (by_time column rows)
unfolding by_time
ranks_right column rows low =
    let time = time_at column rows in
    let r = ranked time (length rows) (λ k h. omega (arith, low k [] h)) in
    (r.perm, falls time (fold (put time) [] (places_below (length rows))) r.sinks)
