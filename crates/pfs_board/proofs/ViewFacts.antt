-- Sums over views, and corners.
use Rattle.std.proofs.Common.{◌≡◌, ℕ, subst, zero, suc, ◌+◌, ◌<◌, ◌≤◌, ◌≢◌, true, false, cond, List, [], ◌∷◌, length, get_or, set, replicate, max, sym, refl, ap, ◌∙◌, ⊎_elim, arith, get_or-set_other, get_or-set_same}
use Rattle.std.proofs.lemmas.Bool.{cases_Bool, cond-true}
use mathlib.Core.Logic.{dite}
use mathlib.Core.Option.{some, some-injective, some-ne-none}
use native.Mathlib.Decide.{ℕ_discrete}
use lib.ListN.{get_elem?}
use Rattle.pfs_board.specs.declared.view.Corner.{Corner}
use Rattle.pfs_board.specs.declared.view.Stage.{Stage}
use Rattle.pfs_board.specs.declared.view.Stage.TheVariants.{Idle, Reading, Holding}
use Rattle.pfs_board.specs.History.{total}
use Rattle.pfs_board.specs.Knowledge.{newcomer, is_holding, held, settled, stale, fresh_start, merged}

module _ {A : Type 0} (f : A → ℕ) where
  pub total_set : (xs : List A) (i : ℕ) (v w : A) → get_elem? xs i ≡ some v → total f (set xs i w) + f v ≡ total f xs + f w
  total_set [] i v w e = absurd (some-ne-none v (sym e))
  total_set (x ∷ xs) zero v w e = let h = ap f (some-injective x v e) in omega arith
  total_set (x ∷ xs) (suc i) v w e = let h = total_set xs i v w e in omega arith

  pub total_one : (xs : List A) (i : ℕ) (v : A) → get_elem? xs i ≡ some v → f v ≤ total f xs
  total_one [] i v e = absurd (some-ne-none v (sym e))
  total_one (x ∷ xs) zero v e = let h = ap f (some-injective x v e) in omega arith
  total_one (x ∷ xs) (suc i) v e = let h = total_one xs i v e in omega arith

  pub total_two : (xs : List A) (i j : ℕ) (v w : A) → i ≢ j → get_elem? xs i ≡ some v → get_elem? xs j ≡ some w → f v + f w ≤ total f xs
  total_two [] i j v w n e g = absurd (some-ne-none v (sym e))
  total_two (x ∷ xs) zero zero v w n e g = absurd (n refl)
  total_two (x ∷ xs) zero (suc j) v w n e g = let h = ap f (some-injective x v e) in let b = total_one xs j w g in omega arith
  total_two (x ∷ xs) (suc i) zero v w n e g = let h = ap f (some-injective x w g) in let b = total_one xs i v e in omega arith
  total_two (x ∷ xs) (suc i) (suc j) v w n e g = let h = total_two xs i j v w (λ h. n (ap suc h)) e g in omega arith

pub total_plus : {A : Type 0} (f g : A → ℕ) (xs : List A) → total (λ x. f x + g x) xs ≡ total f xs + total g xs
total_plus f g [] = refl
total_plus f g (x ∷ xs) = let e = total_plus f g xs in omega arith

pub at_below : {A : Type 0} (xs : List A) (i : ℕ) (v : A) → get_elem? xs i ≡ some v → i < length xs
at_below [] i v e = absurd (some-ne-none v (sym e))
at_below (x ∷ xs) zero v e = omega arith
at_below (x ∷ xs) (suc i) v e = let h = at_below xs i v e in omega arith

abbrev pub one : Corner → ℕ
one c = cond (is_holding c.stage) 1 0

pub held_set : (rows : List Corner) (r : ℕ) (c : Corner) → r < length rows → held (set rows r c) + one (get_or rows r newcomer) ≡ held rows + one c
held_set [] r c h = absurd (omega arith)
held_set (x ∷ xs) zero c h = omega arith
held_set (x ∷ xs) (suc r) c h = let e = held_set xs r c (omega arith) in omega arith

pub held_some : (rows : List Corner) (r : ℕ) → is_holding (get_or rows r newcomer).stage ≡ true → 1 ≤ held rows
held_some [] r h = cc
held_some (x ∷ xs) zero h = let o : one x ≡ 1 = cond-true {A = ℕ} (is_holding x.stage) 1 0 h in omega arith
held_some (x ∷ xs) (suc r) h = let e = held_some xs r h in omega arith

pub held_none : (rows : List Corner) (r : ℕ) → held rows ≡ 0 → is_holding (get_or rows r newcomer).stage ≡ false
held_none [] r h = refl
held_none (x ∷ xs) zero h = ⊎_elim (λ t. let o : one x ≡ 1 = cond-true (is_holding x.stage) 1 0 t in let h' : one x + held xs ≡ 0 = h in absurd (omega arith)) (λ f. f) (cases_Bool (is_holding x.stage))
held_none (x ∷ xs) (suc r) h = let h' : one x + held xs ≡ 0 = h in held_none xs r (omega arith)

-- a fact of each corner, after one was changed
pub corners_set : (P : ℕ → Corner → Type 0) (rows : List Corner) (r : ℕ) (c : Corner) → r < length rows → P r c → ((q : ℕ) → q ≢ r → P q (get_or rows q newcomer)) → (q : ℕ) → P q (get_or (set rows r c) q newcomer)
corners_set P rows r c inside here there q = dite (ℕ_discrete q r)
    (λ e. subst (P q) (sym (ap (λ z. get_or (set rows r c) z newcomer) e ∙ get_or-set_same rows r c newcomer inside)) (subst (λ z. P z c) (sym e) here))
    (λ n. subst (P q) (sym (get_or-set_other rows r q c newcomer n)) (there q n))

stale_at : (rows : List Corner) (q : ℕ) → get_or (stale rows) q newcomer ≡ record (get_or rows q newcomer) { stage = settled (get_or rows q newcomer).stage; fresh = false }
stale_at [] q = refl
stale_at (x ∷ xs) zero = refl
stale_at (x ∷ xs) (suc q) = stale_at xs q

start_at : (rows : List Corner) (q : ℕ) → get_or (fresh_start rows) q newcomer ≡ record newcomer { seen = (get_or rows q newcomer).seen }
start_at [] q = refl
start_at (x ∷ xs) zero = refl
start_at (x ∷ xs) (suc q) = start_at xs q

pub corners_stale : (P : Corner → Type 0) (rows : List Corner) (q : ℕ) → P record (get_or rows q newcomer) { stage = settled (get_or rows q newcomer).stage; fresh = false } → P (get_or (stale rows) q newcomer)
corners_stale P rows q p = subst P (sym (stale_at rows q)) p

pub corners_start : (P : Corner → Type 0) (rows : List Corner) (q : ℕ) → P record newcomer { seen = (get_or rows q newcomer).seen } → P (get_or (fresh_start rows) q newcomer)
corners_start P rows q p = subst P (sym (start_at rows q)) p

-- a corner of two seats that became one
pub corners_merged : (P : Corner → Type 0) (rows others : List Corner) (q : ℕ) → length rows ≡ length others
    → P record (get_or rows q newcomer) { stage = settled (get_or rows q newcomer).stage; fresh = false; seen = max (get_or rows q newcomer).seen (get_or others q newcomer).seen } → P (get_or (merged rows others) q newcomer)
corners_merged P [] [] q e p = p
corners_merged P [] (d ∷ ds) q e p = absurd (omega arith)
corners_merged P (c ∷ cs) [] q e p = absurd (omega arith)
corners_merged P (c ∷ cs) (d ∷ ds) zero e p = p
corners_merged P (c ∷ cs) (d ∷ ds) (suc q) e p = corners_merged P cs ds q (omega arith) p

pub length_stale : (rows : List Corner) → length (stale rows) ≡ length rows
length_stale [] = refl
length_stale (x ∷ xs) = let e = length_stale xs in omega arith

pub length_start : (rows : List Corner) → length (fresh_start rows) ≡ length rows
length_start [] = refl
length_start (x ∷ xs) = let e = length_start xs in omega arith

pub length_merged : (rows others : List Corner) → length (merged rows others) ≡ length rows
length_merged [] ds = refl
length_merged (c ∷ cs) [] = let e = length_merged cs [] in omega arith
length_merged (c ∷ cs) (d ∷ ds) = let e = length_merged cs ds in omega arith

pub settled_holds : (st : Stage) → is_holding (settled st) ≡ is_holding st
settled_holds Idle = refl
settled_holds (Reading k xs) = refl
settled_holds (Holding k found put) = refl

one_settled : (c : Corner) → cond (is_holding (settled c.stage)) 1 0 ≡ one c
one_settled c = ap (λ b. cond b 1 0) (settled_holds c.stage)

pub held_stale : (rows : List Corner) → held (stale rows) ≡ held rows
held_stale [] = refl
held_stale (x ∷ xs) = let e = held_stale xs in let o = one_settled x in omega arith

pub held_start : (rows : List Corner) → held (fresh_start rows) ≡ 0
held_start [] = refl
held_start (x ∷ xs) = let e = held_start xs in omega arith

pub held_merged : (rows others : List Corner) → held (merged rows others) ≡ held rows
held_merged [] ds = refl
held_merged (c ∷ cs) [] = let e = held_merged cs [] in let o = one_settled c in omega arith
held_merged (c ∷ cs) (d ∷ ds) = let e = held_merged cs ds in let o = one_settled c in omega arith

pub corner_new : (n q : ℕ) → get_or (replicate n newcomer) q newcomer ≡ newcomer
corner_new zero q = refl
corner_new (suc n) zero = refl
corner_new (suc n) (suc q) = corner_new n q

pub held_new : (n : ℕ) → held (replicate n newcomer) ≡ 0
held_new zero = refl
held_new (suc n) = let e = held_new n in omega arith
