-- What follows from a list of tickets alone.
use Rattle.std.proofs.Common.{◌≡◌, ℕ, eqb, eq-eqb, ne_eqb, ◌+◌, ◌<◌, ◌≤◌, ◌≢◌, cond, List, [], ◌∷◌, ◌++◌, length, refl, ◌∙◌, arith}
use Rattle.std.proofs.lemmas.Bool.{cond-false, cond-true}
use mathlib.Core.Logic.{dite}
use native.Mathlib.Decide.{ℕ_discrete}
use Rattle.pfs_tickets.specs.declared.view.Drawn.{Drawn}
use Rattle.pfs_tickets.specs.History.{Each, count_of, times, IsRising}
use Rattle.pfs_tickets.proofs.ListFacts.{each_map, each_append}

module _ (x : Drawn) (xs : List Drawn) where
  pub count_here : (k : ℕ) → x.kind ≡ k → count_of k (x ∷ xs) ≡ count_of k xs + 1
  count_here k h = cond-true (eqb x.kind k) (count_of k xs + 1) (count_of k xs) (eq-eqb x.kind k h)

  pub count_other : (k : ℕ) → x.kind ≢ k → count_of k (x ∷ xs) ≡ count_of k xs
  count_other k h = cond-false (eqb x.kind k) (count_of k xs + 1) (count_of k xs) (ne_eqb x.kind k h)

  times_kind : (k t : ℕ) → x.kind ≡ k → times k t (x ∷ xs) ≡ cond (eqb x.ticket t) (times k t xs + 1) (times k t xs)
  times_kind k t h = cond-true (eqb x.kind k) (cond (eqb x.ticket t) (times k t xs + 1) (times k t xs)) (times k t xs) (eq-eqb x.kind k h)

  pub times_here : (k t : ℕ) → x.kind ≡ k → x.ticket ≡ t → times k t (x ∷ xs) ≡ times k t xs + 1
  times_here k t h e = times_kind k t h ∙ cond-true (eqb x.ticket t) (times k t xs + 1) (times k t xs) (eq-eqb x.ticket t e)

  pub times_else : (k t : ℕ) → x.kind ≡ k → x.ticket ≢ t → times k t (x ∷ xs) ≡ times k t xs
  times_else k t h n = times_kind k t h ∙ cond-false (eqb x.ticket t) (times k t xs + 1) (times k t xs) (ne_eqb x.ticket t n)

  pub times_other : (k t : ℕ) → x.kind ≢ k → times k t (x ∷ xs) ≡ times k t xs
  times_other k t h = cond-false (eqb x.kind k) (cond (eqb x.ticket t) (times k t xs + 1) (times k t xs)) (times k t xs) (ne_eqb x.kind k h)

pub count_low : (k : ℕ) (xs : List Drawn) → count_of k xs ≤ length xs
count_low k [] = omega arith
count_low k (x ∷ xs) = let b = count_low k xs in dite (ℕ_discrete x.kind k) (λ e. let a = count_here x xs k e in omega arith) (λ n. let a = count_other x xs k n in omega arith)

pub times_low : (k t : ℕ) (xs : List Drawn) → times k t xs ≤ length xs
times_low k t [] = omega arith
times_low k t (x ∷ xs) = let b = times_low k t xs in dite (ℕ_discrete x.kind k)
    (λ e. dite (ℕ_discrete x.ticket t) (λ h. let a = times_here x xs k t e h in omega arith) (λ h. let a = times_else x xs k t e h in omega arith))
    (λ n. let a = times_other x xs k t n in omega arith)

pub count_append : (k : ℕ) (xs ys : List Drawn) → count_of k (xs ++ ys) ≡ count_of k xs + count_of k ys
count_append k [] ys = omega arith
count_append k (x ∷ xs) ys = let b = count_append k xs ys in dite (ℕ_discrete x.kind k)
    (λ e. let a = count_here x xs k e in let c = count_here x (xs ++ ys) k e in omega arith)
    (λ n. let a = count_other x xs k n in let c = count_other x (xs ++ ys) k n in omega arith)

pub times_append : (k t : ℕ) (xs ys : List Drawn) → times k t (xs ++ ys) ≡ times k t xs + times k t ys
times_append k t [] ys = omega arith
times_append k t (x ∷ xs) ys = let b = times_append k t xs ys in dite (ℕ_discrete x.kind k)
    (λ e. dite (ℕ_discrete x.ticket t) (λ h. let a = times_here x xs k t e h in let c = times_here x (xs ++ ys) k t e h in omega arith) (λ h. let a = times_else x xs k t e h in let c = times_else x (xs ++ ys) k t e h in omega arith))
    (λ n. let a = times_other x xs k t n in let c = times_other x (xs ++ ys) k t n in omega arith)

-- all tickets are of the four kinds
pub four_kinds : (xs : List Drawn) → Each (λ (x : Drawn). x.kind < 4) xs → count_of 0 xs + count_of 1 xs + count_of 2 xs + count_of 3 xs ≡ length xs
four_kinds [] e = refl
four_kinds (x ∷ xs) e = let h = e.0 in let b = four_kinds xs e.1 in
    dite (ℕ_discrete x.kind 0)
    (λ z. let p = count_here x xs 0 z in let q = count_other x xs 1 (λ i. omega arith) in let r = count_other x xs 2 (λ i. omega arith) in let s = count_other x xs 3 (λ i. omega arith) in omega arith)
    (λ n0. dite (ℕ_discrete x.kind 1)
    (λ z. let p = count_other x xs 0 n0 in let q = count_here x xs 1 z in let r = count_other x xs 2 (λ i. omega arith) in let s = count_other x xs 3 (λ i. omega arith) in omega arith)
    (λ n1. dite (ℕ_discrete x.kind 2)
    (λ z. let p = count_other x xs 0 n0 in let q = count_other x xs 1 n1 in let r = count_here x xs 2 z in let s = count_other x xs 3 (λ i. omega arith) in omega arith)
    (λ n2. let p = count_other x xs 0 n0 in let q = count_other x xs 1 n1 in let r = count_other x xs 2 n2 in let s = count_here x xs 3 (omega arith) in omega arith)))

module _ (m : ℕ) where
  pub rising_append : (xs ys : List Drawn) → IsRising xs → IsRising ys → Each (λ (x : Drawn). x.by ≡ m) xs → Each (λ (y : Drawn). y.by ≢ m) ys → IsRising (xs ++ ys)
  rising_append [] ys a b own others = b
  rising_append (x ∷ xs) ys a b own others = (
    each_append (λ (y : Drawn). y.by ≡ x.by → y.kind ≡ x.kind → y.ticket < x.ticket) xs ys a.0 (each_map (λ (y : Drawn). y.by ≢ m) (λ (y : Drawn). y.by ≡ x.by → y.kind ≡ x.kind → y.ticket < x.ticket) (λ y h e _. absurd (h (e ∙ own.0))) ys others),
    rising_append xs ys a.1 b own.1 others,
  )
