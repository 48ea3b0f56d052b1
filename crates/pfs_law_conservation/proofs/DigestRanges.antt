-- The rows of digests, by their numbers: those of a setting are among 8385 to 8449.
use Rattle.std.proofs.Common.{◌≡◌, refl, ℕ, zero, suc, ◌+◌, ◌<◌, ◌≤◌, ◌==◌, Bool, true, false, cond, nat_lt, nat_le, List, [], ◌∷◌, ◌++◌, length, Option, Some, None, count_by, ap, ◌∙◌, arith}
use Rattle.std.specs.Prelude.{IfSome}
use Rattle.std.proofs.lemmas.List.Sums.{sum_by-cons}
use Rattle.std.proofs.lemmas.Bool.{and_parts}
use Rattle.pfs_admin.proofs.KindCells.{kinds_fit}
use Rattle.pfs_admin.specs.OpeningState.{kinds_of}
use Rattle.pfs_classes.specs.declared.setting.Setting.{Setting}
use Rattle.pfs_model.specs.EntryAsks.{digest_row}
use Rattle.pfs_model.specs.Chains.{Each, times}
use Rattle.pfs_model.specs.SummaryCounts.{is_digest_row}
use Rattle.pfs_law_conservation.specs.RunDigests.{rows_from, digest_rows}
use Rattle.pfs_law_conservation.proofs.RowLines.{bit_yes}

pub row_above : (row : ℕ) → 8450 ≤ row → is_digest_row row ≡ false
row_above row l = grind arith

pub row_below : (row : ℕ) → row < 8385 → is_digest_row row ≡ false
row_below row l = grind arith

pub row_inside : (row : ℕ) → 8385 ≤ row → row < 8450 → is_digest_row row ≡ true
row_inside row l h = grind arith

pub row_range : (row : ℕ) → is_digest_row row ≡ true → (8385 ≤ row) × (row < 8450)
row_range row q = let b : (nat_le 8385 row ≡ true) × (nat_lt row 8450 ≡ true) = and_parts (nat_le 8385 row) (nat_lt row 8450) q in (low row b.0, high row b.1) where
  low : (r : ℕ) → nat_le 8385 r ≡ true → 8385 ≤ r
  low r q = grind arith

  high : (r : ℕ) → nat_lt r 8450 ≡ true → r < 8450
  high r q = grind arith

-- so many rows from one on are just those that follow it
rows_each : (first more low high : ℕ) → low ≤ first → first + more ≤ high → Each (λ r. (low ≤ r) × (r < high)) (rows_from first more)
rows_each first zero low high l h = tt
rows_each first (suc more) low high l h = ((l, omega (arith, h)), rows_each (suc first) more low high (omega (arith, l)) (omega (arith, h)))

rows_count : (first more row : ℕ) → first ≤ row → row < first + more → 1 ≤ count_by (λ r. r == row) (rows_from first more)
rows_count first zero row l h = absurd (omega (arith, l, h))
rows_count first (suc more) row l h = at (first == row) refl (count_cons first (rows_from (suc first) more)) (λ k. rows_count (suc first) more row k (omega (arith, h))) where
  count_cons : (x : ℕ) (xs : List ℕ) → count_by (λ r. r == row) (x ∷ xs) ≡ cond (x == row) 1 0 + count_by (λ r. r == row) xs
  count_cons x xs = sum_by-cons (λ r. cond (r == row) 1 0) x xs

  past : (a b : ℕ) → a ≤ b → (a == b) ≡ false → suc a ≤ b
  past a b l q = grind arith

  at : (b : Bool) → (first == row) ≡ b → count_by (λ r. r == row) (first ∷ rows_from (suc first) more) ≡ cond (first == row) 1 0 + count_by (λ r. r == row) (rows_from (suc first) more)
      → (suc first ≤ row → 1 ≤ count_by (λ r. r == row) (rows_from (suc first) more)) → 1 ≤ count_by (λ r. r == row) (first ∷ rows_from (suc first) more)
  at true q c go = let y : cond {A = ℕ} (first == row) 1 0 ≡ 1 = bit_yes (first == row) q in omega (arith, c, y)
  at false q c go = let k : 1 ≤ count_by (λ r. r == row) (rows_from (suc first) more) = go (past first row l q) in omega (arith, c, k)

pub rows_once : (first more row : ℕ) → times (λ r. r == row) (rows_from first more) ≤ cond {A = ℕ} (nat_le first row) 1 0
rows_once first zero row = omega arith
rows_once first (suc more) row = let l : times (λ r. r == row) (rows_from (suc first) more) ≤ cond {A = ℕ} (nat_le (suc first) row) 1 0 = rows_once (suc first) more row in omega (arith, l, step first row) where
  step : (f r : ℕ) → cond {A = ℕ} (f == r) 1 0 + cond {A = ℕ} (nat_le (suc f) r) 1 0 ≤ cond {A = ℕ} (nat_le f r) 1 0
  step f r = grind arith

-- one more, at the end
pub rows_more : (first more : ℕ) → rows_from first (suc more) ≡ rows_from first more ++ (first + more) ∷ []
rows_more first zero = ap (λ r. r ∷ []) (plus first) where
  plus : (n : ℕ) → n ≡ n + 0
  plus n = omega arith
rows_more first (suc more) = ap (λ (z : List ℕ). first ∷ z) (rows_more (suc first) more ∙ ap (λ r. rows_from (suc first) more ++ r ∷ []) (shift first more)) where
  shift : (a b : ℕ) → suc a + b ≡ a + suc b
  shift a b = omega arith

-- of a setting
row_listed : (setting : Setting) (row : ℕ) → 8385 ≤ row → row < 8386 + length setting.digests → 1 ≤ count_by (λ r. r == row) (digest_rows setting)
unfolding digest_rows
row_listed setting row l h = rows_count 8385 (suc (length setting.digests)) row l (omega (arith, h))

pub all_listed : (setting : Setting) → Each (λ row. nat_lt 0 (count_by (λ r. r == row) (digest_rows setting)) ≡ true) (digest_rows setting)
unfolding digest_rows
all_listed setting = each (rows_from 8385 (suc (length setting.digests))) (rows_each 8385 (suc (length setting.digests)) 8385 (8386 + length setting.digests) (omega arith) (omega arith)) where
  some : (n : ℕ) → 1 ≤ n → nat_lt 0 n ≡ true
  some n l = grind arith

  each : (rows : List ℕ) → Each (λ r. (8385 ≤ r) × (r < 8386 + length setting.digests)) rows → Each (λ row. nat_lt 0 (count_by (λ r. r == row) (rows_from 8385 (suc (length setting.digests)))) ≡ true) rows
  each [] h = tt
  each (row ∷ rows) h = (some _ (rows_count 8385 (suc (length setting.digests)) row h.0.0 (let l : row < 8386 + length setting.digests = h.0.1 in omega (arith, l))), each rows h.1)

pub digests_few : (setting : Setting) → length setting.digests ≤ 64
unfolding kinds_of
digests_few setting = (kinds_fit setting).digests_few

-- the row of a digest that has one of the setting's places, or none
pub home_listed : (setting : Setting) (digest : Option ℕ) → IfSome digest (λ place. place < length setting.digests) → 1 ≤ count_by (λ r. r == digest_row digest) (digest_rows setting)
home_listed setting None l = row_listed setting 8385 (omega arith) (omega arith)
home_listed setting (Some place) l = row_listed setting (8386 + place) (omega arith) (omega (arith, l))

pub home_inside : (setting : Setting) (digest : Option ℕ) → IfSome digest (λ place. place < length setting.digests) → is_digest_row (digest_row digest) ≡ true
home_inside setting None l = refl
home_inside setting (Some place) l = let few : length setting.digests ≤ 64 = digests_few setting in row_inside (8386 + place) (omega arith) (omega (arith, l, few))
