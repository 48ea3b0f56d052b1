-- The rows for which something is held, as an ascending list.
use Rattle.std.proofs.Common.{ℕ, zero, suc, ◌≡◌, ◌<◌, ◌≤◌, ◌+◌, ◌*◌, Bool, true, false, cond, List, [], ◌∷◌, Option, Some, None, length, map, slice_set, eq-eqb, ne_eqb, inl, inr, refl, ap, sym, ◌∙◌, arith}
use Rattle.std.specs.Prelude.{nat_lt, ◌==◌, ◌⊎◌, if◌then◌else◌}
use Rattle.std.specs.Ordering.{nat_cmp, match_ordering, is_eq}
use Rattle.std.proofs.Common.{Less, Equal, Greater}
use Rattle.std.specs.BTreeMap.{is_at}
use Rattle.std.specs.BTreeSet.{insert_key}
use Rattle.std.specs.Set.{remove_key}
use Rattle.std.proofs.lemmas.Bool.{lt-ltb, le-ltb, ltb-true, ltb-false}
use Rattle.pfs_stat.specs.declared.Stat.{Stat}
use Rattle.pfs_session.specs.Settlements.{owed_from}
use Rattle.pfs_session.specs.SessionStates.{held_row}
use Rattle.pfs_law_session.specs.Agreement.{row_owed}

abbrev pub rows : ℕ → ℕ → List (Option Stat) → List ℕ
rows slot cell held = map row_owed (owed_from slot cell held)

row_low : (slot cell : ℕ) → cell < 64 → held_row slot cell ≡ 129 + 64 * slot + cell
row_low slot cell low = ap (λ b. if b then 129 + 64 * slot + cell else 8257 + cell) (lt-ltb cell 64 low)

row_high : (slot cell : ℕ) → 64 ≤ cell → held_row slot cell ≡ 8257 + cell
row_high slot cell high = ap (λ b. if b then 129 + 64 * slot + cell else 8257 + cell) (le-ltb cell 64 high)

split_at : (n : ℕ) → (n < 64) ⊎ (64 ≤ n)
split_at n = by_test (nat_lt n 64) refl where
  by_test : (b : Bool) → nat_lt n 64 ≡ b → (n < 64) ⊎ (64 ≤ n)
  by_test true e = inl (ltb-true n 64 e)
  by_test false e = inr (ltb-false n 64 e)

-- rows ascend with their cells
pub row_mono : (slot n i : ℕ) → slot < 32 → n < i → held_row slot n < held_row slot i
row_mono slot n i s lt =
    elim (split_at n) [
      | inl a ↦ elim (split_at i) [
        | inl b ↦ omega (arith, row_low slot n a, row_low slot i b, lt)
        | inr b ↦ omega (arith, row_low slot n a, row_high slot i b, lt, a, b, s)
      ]
      | inr a ↦ elim (split_at i) [
        | inl b ↦ absurd (omega (arith, a, b, lt))
        | inr b ↦ omega (arith, row_high slot n a, row_high slot i b, lt)
      ]
    ]

-- each of these is above
abbrev pub Above : ℕ → List ℕ → Type 0
Above n [] = Unit {0}
Above n (r ∷ rs) = (n < r) × Above n rs

pub rows_none : (slot cell : ℕ) (xs : List (Option Stat)) → rows slot cell (None ∷ xs) ≡ rows slot (cell + 1) xs
unfolding owed_from
rows_none slot cell xs = refl

pub rows_some : (slot cell : ℕ) (amount : Stat) (xs : List (Option Stat)) → rows slot cell (Some amount ∷ xs) ≡ held_row slot cell ∷ rows slot (cell + 1) xs
unfolding owed_from
rows_some slot cell amount xs = refl

pub rows_above : (slot n cell : ℕ) (xs : List (Option Stat)) → slot < 32 → n < cell → Above (held_row slot n) (rows slot cell xs)
unfolding owed_from
rows_above slot n cell [] s lt = tt
rows_above slot n cell (None ∷ xs) s lt = rows_above slot n (cell + 1) xs s (omega (arith, lt))
rows_above slot n cell (Some a ∷ xs) s lt = (row_mono slot n cell s lt, rows_above slot n (cell + 1) xs s (omega (arith, lt)))

cmp_less : (a b : ℕ) → a < b → nat_cmp a b ≡ Less
cmp_less a b lt = ap (λ z. cond z Less (cond (a == b) Equal Greater)) (lt-ltb a b lt)

cmp_same : (a : ℕ) → nat_cmp a a ≡ Equal
cmp_same a = ap (λ z. cond z Less (cond (a == a) Equal Greater)) (le-ltb a a (omega arith)) ∙ ap (λ z. cond z Equal Greater) (eq-eqb a a refl)

cmp_more : (a b : ℕ) → b < a → nat_cmp a b ≡ Greater
cmp_more a b lt =
    ap (λ z. cond z Less (cond (a == b) Equal Greater)) (le-ltb a b (omega (arith, lt)))
    ∙ ap (λ z. cond z Equal Greater) (ne_eqb a b (λ e. absurd (omega (arith, e, lt))))

put_front : (r : ℕ) (rs : List ℕ) → Above r rs → insert_key nat_cmp rs r ≡ r ∷ rs
put_front r [] a = refl
put_front r (x ∷ xs) a = ap (λ z. match_ordering z (r ∷ x ∷ xs) (x ∷ xs) (x ∷ insert_key nat_cmp xs r)) (cmp_less r x a.0)

put_same : (r : ℕ) (rs : List ℕ) → insert_key nat_cmp (r ∷ rs) r ≡ r ∷ rs
put_same r rs = ap (λ z. match_ordering z (r ∷ r ∷ rs) (r ∷ rs) (r ∷ insert_key nat_cmp rs r)) (cmp_same r)

put_behind : (r x : ℕ) (xs : List ℕ) → x < r → insert_key nat_cmp (x ∷ xs) r ≡ x ∷ insert_key nat_cmp xs r
put_behind r x xs lt = ap (λ z. match_ordering z (r ∷ x ∷ xs) (x ∷ xs) (x ∷ insert_key nat_cmp xs r)) (cmp_more r x lt)

pub drop_none : (r : ℕ) (rs : List ℕ) → Above r rs → remove_key (is_at (nat_cmp r)) rs ≡ rs
drop_none r [] a = refl
drop_none r (x ∷ xs) a =
    ap (λ z. cond (is_eq z) xs (x ∷ remove_key (is_at (nat_cmp r)) xs)) (cmp_less r x a.0) ∙ ap (λ z. x ∷ z) (drop_none r xs a.1)

pub drop_same : (r : ℕ) (rs : List ℕ) → remove_key (is_at (nat_cmp r)) (r ∷ rs) ≡ rs
drop_same r rs = ap (λ z. cond (is_eq z) rs (r ∷ remove_key (is_at (nat_cmp r)) rs)) (cmp_same r)

drop_behind : (r x : ℕ) (xs : List ℕ) → x < r → remove_key (is_at (nat_cmp r)) (x ∷ xs) ≡ x ∷ remove_key (is_at (nat_cmp r)) xs
drop_behind r x xs lt = ap (λ z. cond (is_eq z) xs (x ∷ remove_key (is_at (nat_cmp r)) xs)) (cmp_more r x lt)

-- an amount more is held
pub rows_held : (slot cell n : ℕ) (xs : List (Option Stat)) (amount : Stat) → slot < 32 → n < length xs
    → insert_key nat_cmp (rows slot cell xs) (held_row slot (cell + n)) ≡ rows slot cell (slice_set xs n (Some amount))
rows_held slot cell n [] amount s lt = absurd (omega (arith, lt))
rows_held slot cell zero (None ∷ xs) amount s lt =
    ap (λ z. insert_key nat_cmp z (held_row slot (cell + zero))) (rows_none slot cell xs) ∙ ap (λ z. insert_key nat_cmp (rows slot (cell + 1) xs) (held_row slot z)) (omega arith)
    ∙ put_front (held_row slot cell) (rows slot (cell + 1) xs) (rows_above slot cell (cell + 1) xs s (omega arith)) ∙ sym (rows_some slot cell amount xs)
rows_held slot cell zero (Some a ∷ xs) amount s lt =
    ap (λ z. insert_key nat_cmp z (held_row slot (cell + zero))) (rows_some slot cell a xs)
    ∙ ap (λ z. insert_key nat_cmp (held_row slot cell ∷ rows slot (cell + 1) xs) (held_row slot z)) (omega arith)
    ∙ put_same (held_row slot cell) (rows slot (cell + 1) xs) ∙ sym (rows_some slot cell amount xs)
rows_held slot cell (suc n) (None ∷ xs) amount s lt =
    ap (λ z. insert_key nat_cmp z (held_row slot (cell + suc n))) (rows_none slot cell xs)
    ∙ ap (λ z. insert_key nat_cmp (rows slot (cell + 1) xs) (held_row slot z)) (omega arith)
    ∙ rows_held slot (cell + 1) n xs amount s (omega (arith, lt)) ∙ sym (rows_none slot cell (slice_set xs n (Some amount)))
rows_held slot cell (suc n) (Some a ∷ xs) amount s lt =
    ap (λ z. insert_key nat_cmp z (held_row slot (cell + suc n))) (rows_some slot cell a xs)
    ∙ put_behind (held_row slot (cell + suc n)) (held_row slot cell) (rows slot (cell + 1) xs) (row_mono slot cell (cell + suc n) s (omega arith))
    ∙ ap (λ z. held_row slot cell ∷ insert_key nat_cmp (rows slot (cell + 1) xs) (held_row slot z)) (omega arith)
    ∙ ap (λ z. held_row slot cell ∷ z) (rows_held slot (cell + 1) n xs amount s (omega (arith, lt))) ∙ sym (rows_some slot cell a (slice_set xs n (Some amount)))

-- nothing is held any more for a row
pub rows_freed : (slot cell n : ℕ) (xs : List (Option Stat)) → slot < 32 → n < length xs
    → remove_key (is_at (nat_cmp (held_row slot (cell + n)))) (rows slot cell xs) ≡ rows slot cell (slice_set xs n None)
rows_freed slot cell n [] s lt = absurd (omega (arith, lt))
rows_freed slot cell zero (None ∷ xs) s lt =
    ap (λ z. remove_key (is_at (nat_cmp (held_row slot (cell + zero)))) z) (rows_none slot cell xs)
    ∙ ap (λ z. remove_key (is_at (nat_cmp (held_row slot z))) (rows slot (cell + 1) xs)) (omega arith)
    ∙ drop_none (held_row slot cell) (rows slot (cell + 1) xs) (rows_above slot cell (cell + 1) xs s (omega arith)) ∙ sym (rows_none slot cell xs)
rows_freed slot cell zero (Some a ∷ xs) s lt =
    ap (λ z. remove_key (is_at (nat_cmp (held_row slot (cell + zero)))) z) (rows_some slot cell a xs)
    ∙ ap (λ z. remove_key (is_at (nat_cmp (held_row slot z))) (held_row slot cell ∷ rows slot (cell + 1) xs)) (omega arith)
    ∙ drop_same (held_row slot cell) (rows slot (cell + 1) xs) ∙ sym (rows_none slot cell xs)
rows_freed slot cell (suc n) (None ∷ xs) s lt =
    ap (λ z. remove_key (is_at (nat_cmp (held_row slot (cell + suc n)))) z) (rows_none slot cell xs)
    ∙ ap (λ z. remove_key (is_at (nat_cmp (held_row slot z))) (rows slot (cell + 1) xs)) (omega arith)
    ∙ rows_freed slot (cell + 1) n xs s (omega (arith, lt)) ∙ sym (rows_none slot cell (slice_set xs n None))
rows_freed slot cell (suc n) (Some a ∷ xs) s lt =
    ap (λ z. remove_key (is_at (nat_cmp (held_row slot (cell + suc n)))) z) (rows_some slot cell a xs)
    ∙ drop_behind (held_row slot (cell + suc n)) (held_row slot cell) (rows slot (cell + 1) xs) (row_mono slot cell (cell + suc n) s (omega arith))
    ∙ ap (λ z. held_row slot cell ∷ remove_key (is_at (nat_cmp (held_row slot z))) (rows slot (cell + 1) xs)) (omega arith)
    ∙ ap (λ z. held_row slot cell ∷ z) (rows_freed slot (cell + 1) n xs s (omega (arith, lt))) ∙ sym (rows_some slot cell a (slice_set xs n None))
