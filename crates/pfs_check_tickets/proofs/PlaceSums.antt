-- Numbers of places that add up.
use Rattle.std.proofs.Common.{◌≡◌, refl, ℕ, zero, suc, ◌+◌, ◌*◌, ◌-◌, ◌/◌, ◌%◌, ◌<◌, ◌≤◌, ◌==◌, ◌≢◌, inl, inr, Bool, true, false, cond, nat_lt, List, [], ◌∷◌, length, sym, ◌∙◌, ap, arith}
use Rattle.std.specs.Prelude.{◌⊎◌}
use Rattle.std.proofs.lemmas.Bool.{eqb-true, ltb-false, ltb-true}
use Rattle.pfs_model.specs.Causes.{long_row}
use Rattle.pfs_model.specs.Chains.{Each, times}
use Rattle.pfs_model.specs.Rings.{LongPut, tickets_of_row}

-- numbers that differ
not_same : (a b : ℕ) → (a == b) ≡ false → a ≢ b
not_same a b e = grind arith

-- of the places below one
sum_to : ℕ → (ℕ → ℕ) → ℕ
sum_to zero f = 0
sum_to (suc n) f = f n + sum_to n f

sum_plus : (n : ℕ) (f g : ℕ → ℕ) → sum_to n (λ r. f r + g r) ≡ sum_to n f + sum_to n g
unfolding sum_to
sum_plus zero f g = refl
sum_plus (suc n) f g = omega (arith, sum_plus n f g)

sum_zero : (n : ℕ) → sum_to n (λ r. 0) ≡ 0
unfolding sum_to
sum_zero zero = refl
sum_zero (suc n) = omega (arith, sum_zero n)

sum_most : (n : ℕ) (f g : ℕ → ℕ) → ((r : ℕ) → f r ≤ g r) → sum_to n f ≤ sum_to n g
unfolding sum_to
sum_most zero f g h = omega arith
sum_most (suc n) f g h = omega (arith, h n, sum_most n f g h)

-- each is no more than another, and all are as many: then each is that
sums_same : (n : ℕ) (f g : ℕ → ℕ) → ((r : ℕ) → f r ≤ g r) → sum_to n f ≡ sum_to n g → (r : ℕ) → r < n → f r ≡ g r
unfolding sum_to
sums_same zero f g h e r l = absurd (omega (arith, l))
sums_same (suc n) f g h e r l = at (r == n) refl (sums_same n f g h (omega (arith, e, h n, sum_most n f g h)) r) where
  at : (b : Bool) → (r == n) ≡ b → (r < n → f r ≡ g r) → f r ≡ g r
  at true s rest =
      let is : r ≡ n = eqb-true r n s in
      ap f is ∙ here ∙ sym (ap g is) where
        here : f n ≡ g n
        here = omega (arith, e, h n, sum_most n f g h)
  at false s rest =
      let not : r ≢ n = not_same r n s in
      rest (omega (arith, l, not))

-- one place has one
bit : ℕ → ℕ → ℕ → ℕ
bit base place r = cond (base + place == base + r) 1 0

bit_same : (base place : ℕ) → bit base place place ≡ 1
unfolding bit
bit_same base place = grind arith

bit_other : (base place r : ℕ) → place ≢ r → bit base place r ≡ 0
unfolding bit
bit_other base place r h = at (base + place == base + r) refl where
  at : (b : Bool) → (base + place == base + r) ≡ b → cond {A = ℕ} b 1 0 ≡ 0
  at true e = absurd (omega (arith, h, eqb-true (base + place) (base + r) e))
  at false e = refl

sum_behind : (n base place : ℕ) → n ≤ place → sum_to n (bit base place) ≡ 0
unfolding sum_to
sum_behind zero base place h = refl
sum_behind (suc n) base place h =
    let ne : place ≢ n = omega (arith, h) in
    omega (arith, bit_other base place n ne, sum_behind n base place (omega (arith, h)))

sum_one : (n base place : ℕ) → place < n → sum_to n (bit base place) ≡ 1
unfolding sum_to
sum_one zero base place h = absurd (omega (arith, h))
sum_one (suc n) base place h = at (place == n) refl (sum_one n base place) where
  at : (b : Bool) → (place == n) ≡ b → (place < n → sum_to n (bit base place) ≡ 1) → bit base place n + sum_to n (bit base place) ≡ 1
  at true e rest =
      let is : place ≡ n = eqb-true place n e in
      omega (arith, ap (bit base place) (sym is) ∙ bit_same base place, sum_behind n base place (omega (arith, is)))
  at false e rest =
      let ne : place ≢ n = not_same place n e in
      omega (arith, bit_other base place n ne, rest (omega (arith, h, ne)))

-- a put stands at one of so many places behind a row
pub record IsWithin (base n : ℕ) (put : LongPut) : Type 0 where
  pub place : ℕ
  pub low : place < n
  pub row_is : put.row ≡ base + place

abbrev row_times : ℕ → List LongPut → ℕ → ℕ
row_times base puts r = times (λ (put : LongPut). put.row == base + r) puts

puts_sum : (n base : ℕ) (puts : List LongPut) → Each (IsWithin base n) puts → sum_to n (row_times base puts) ≡ length puts
unfolding bit
puts_sum n base [] e = sum_zero n
puts_sum n base (put ∷ puts) e =
    sum_plus n (λ r. cond (put.row == base + r) 1 0) (row_times base puts)
    ∙ one (sum_to n (λ r. cond (put.row == base + r) 1 0)) (here e.0) (puts_sum n base puts e.1) where
      here : IsWithin base n put → sum_to n (λ r. cond (put.row == base + r) 1 0) ≡ 1
      here w = ap (λ z. sum_to n (λ r. cond (z == base + r) 1 0)) w.row_is ∙ sum_one n base w.place w.low

      one : (m : ℕ) → m ≡ 1 → sum_to n (row_times base puts) ≡ length puts → m + sum_to n (row_times base puts) ≡ suc (length puts)
      one m h s = omega (arith, h, s)

-- each ticket stands at one of the thousand places of its kind
tickets_sum : (kind from more : ℕ)
    → sum_to 1000 (λ r. tickets_of_row kind (10242 + 1000 * kind + r) from more) ≡ more
unfolding bit
tickets_sum kind from zero = sum_zero 1000
tickets_sum kind from (suc more) =
    sum_plus 1000 (λ r. cond (long_row kind (from + more) == 10242 + 1000 * kind + r) 1 0)
    (λ r. tickets_of_row kind (10242 + 1000 * kind + r) from more)
    ∙ one (sum_to 1000 (λ r. cond (long_row kind (from + more) == 10242 + 1000 * kind + r) 1 0)) here (tickets_sum kind from more) where
      low : (from + more) % 1000 < 1000
      low = grind arith

      here : sum_to 1000 (λ r. cond (long_row kind (from + more) == 10242 + 1000 * kind + r) 1 0) ≡ 1
      here = sum_one 1000 (10242 + 1000 * kind) ((from + more) % 1000) low

      one : (m : ℕ) → m ≡ 1 → sum_to 1000 (λ r. tickets_of_row kind (10242 + 1000 * kind + r) from more) ≡ more
          → m + sum_to 1000 (λ r. tickets_of_row kind (10242 + 1000 * kind + r) from more) ≡ suc more
      one m h s = omega (arith, h, s)

-- elsewhere there is none
pub none_elsewhere : (kind row from more : ℕ) → (row < 10242 + 1000 * kind) ⊎ (10242 + 1000 * kind + 1000 ≤ row)
    → tickets_of_row kind row from more ≡ 0
none_elsewhere kind row from zero out = refl
none_elsewhere kind row from (suc more) out = at (long_row kind (from + more) == row) refl out (none_elsewhere kind row from more out) where
  low : (from + more) % 1000 < 1000
  low = grind arith

  at : (b : Bool) → (long_row kind (from + more) == row) ≡ b → (row < 10242 + 1000 * kind) ⊎ (10242 + 1000 * kind + 1000 ≤ row)
      → tickets_of_row kind row from more ≡ 0 → cond b 1 0 + tickets_of_row kind row from more ≡ 0
  at true e (inl l) rest = absurd (omega (arith, low, eqb-true (long_row kind (from + more)) row e, l))
  at true e (inr l) rest = absurd (omega (arith, low, eqb-true (long_row kind (from + more)) row e, l))
  at false e o rest = omega (arith, rest)

-- So where no place has more puts than tickets, and there are as many, each has as many.
pub puts_placed : (kind from : ℕ) (puts : List LongPut) → Each (IsWithin (10242 + 1000 * kind) 1000) puts
    → ((row : ℕ) → times (λ (put : LongPut). put.row == row) puts ≤ tickets_of_row kind row from (length puts)) → (row : ℕ)
    → times (λ (put : LongPut). put.row == row) puts ≡ tickets_of_row kind row from (length puts)
puts_placed kind from puts within most row = on (where_is row) where
  where_is : (row : ℕ) → ((row < 10242 + 1000 * kind) ⊎ (10242 + 1000 * kind + 1000 ≤ row))
      ⊎ ((place : ℕ) × (place < 1000) × (row ≡ 10242 + 1000 * kind + place))
  where_is row = first (nat_lt row (10242 + 1000 * kind)) (nat_lt row (10242 + 1000 * kind + 1000)) refl refl where
    first : (a b : Bool) → nat_lt row (10242 + 1000 * kind) ≡ a → nat_lt row (10242 + 1000 * kind + 1000) ≡ b
        → ((row < 10242 + 1000 * kind) ⊎ (10242 + 1000 * kind + 1000 ≤ row))
        ⊎ ((place : ℕ) × (place < 1000) × (row ≡ 10242 + 1000 * kind + place))
    first true b e f = inl (inl (ltb-true row (10242 + 1000 * kind) e))
    first false false e f = inl (inr (ltb-false row (10242 + 1000 * kind + 1000) f))
    first false true e f =
        let low : 10242 + 1000 * kind ≤ row = ltb-false row (10242 + 1000 * kind) e in
        let high : row < 10242 + 1000 * kind + 1000 = ltb-true row (10242 + 1000 * kind + 1000) f in
        inr (row - (10242 + 1000 * kind), omega (arith, low, high), omega (arith, low))

  on : ((row < 10242 + 1000 * kind) ⊎ (10242 + 1000 * kind + 1000 ≤ row))
      ⊎ ((place : ℕ) × (place < 1000) × (row ≡ 10242 + 1000 * kind + place))
      → times (λ (put : LongPut). put.row == row) puts ≡ tickets_of_row kind row from (length puts)
  on (inl out) = omega (arith, most row, none_elsewhere kind row from (length puts) out)
  on (inr there) =
      ap (λ z. times (λ (put : LongPut). put.row == z) puts) there.2
      ∙ sums_same 1000 (row_times (10242 + 1000 * kind) puts) (λ r. tickets_of_row kind (10242 + 1000 * kind + r) from (length puts))
      (λ r. most (10242 + 1000 * kind + r))
      (puts_sum 1000 (10242 + 1000 * kind) puts within ∙ sym (tickets_sum kind from (length puts))) there.0 there.1
      ∙ sym (ap (λ z. tickets_of_row kind z from (length puts)) there.2)
