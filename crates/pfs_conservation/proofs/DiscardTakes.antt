-- Every event is shown by the global row or was discarded by one take of its cell.
use Rattle.std.proofs.Common.{◌≡◌, ℕ, ◌+◌, ◌*◌, ◌≤◌, ◌==◌, Bool, true, false, cond, List, [], ◌∷◌, Option, Some, None, count_by, refl, ap, subst, arith}
use Rattle.std.specs.Prelude.{nat_le}
use Rattle.pfs_lemmas.proofs.Options.{none_some, some_same}
use Rattle.pfs_lemmas.proofs.Numbers.{eq_self}
use Rattle.pfs_conservation.specs.RowChains.{Change, Added, Taken, Given}
use Rattle.pfs_conservation.specs.Removals.{first_take, following, first_from, Ascends}
use Rattle.pfs_conservation.specs.Conservation.{takes_of}
use Rattle.pfs_conservation.proofs.MergeTotals.{bit_yes, bit_no}
use Rattle.pfs_conservation.proofs.ChainEvents.{stays, leaves, count_cons}
use Rattle.pfs_conservation.proofs.RowSums.{sum_of}

-- no number below the key is among the takes
takes_above : (key : ℕ) (cs : List Change) (t : ℕ) → Ascends key cs → 2 * t + 2 ≤ key → count_by (λ c. c == t) (takes_of cs) ≡ 0
takes_above key [] t a l = refl
takes_above key (Added es ∷ cs) t a l = takes_above key cs t a l
takes_above key (Given n row ∷ cs) t a l = let low : key ≤ 2 * n = a.0 in takes_above (2 * n) cs t a.1 (omega arith)
takes_above key (Taken n ∷ cs) t a l =
    let low : key ≤ 2 * n + 1 = a.0 in
    omega (arith, takes_above (2 * n + 2) cs t a.1 (omega arith), count_cons (λ c. c == t) n (takes_of cs), bit_no (n == t) (apart n t (λ q. omega arith)))
  where
    apart : (a b : ℕ) → (a ≡ b → ⊥) → (a == b) ≡ false
    apart a b h = grind (arith, h)

-- an action takes a row once
takes_most : (key : ℕ) (cs : List Change) (t : ℕ) → Ascends key cs → count_by (λ c. c == t) (takes_of cs) ≤ 1
takes_most key [] t a = omega arith
takes_most key (Added es ∷ cs) t a = takes_most key cs t a
takes_most key (Given n row ∷ cs) t a = takes_most (2 * n) cs t a.1
takes_most key (Taken n ∷ cs) t a = at (n == t) refl (takes_most (2 * n + 2) cs t a.1)
  where
    same : (a b : ℕ) → (a == b) ≡ true → a ≡ b
    same a b h = grind (arith, h)

    at : (b : Bool) → (n == t) ≡ b → count_by (λ c. c == t) (takes_of cs) ≤ 1 → count_by (λ c. c == t) (n ∷ takes_of cs) ≤ 1
    at true q ih = omega (arith, takes_above (2 * n + 2) cs t a.1 (omega (arith, same n t q)), count_cons (λ c. c == t) n (takes_of cs), bit_yes (n == t) q)
    at false q ih = omega (arith, ih, count_cons (λ c. c == t) n (takes_of cs), bit_no (n == t) q)

pub from_takes : (n t : ℕ) (cs : List Change) → first_from n cs ≡ Some t → 1 ≤ count_by (λ c. c == t) (takes_of cs)
from_takes n t [] h = none_some t h
from_takes n t (Added es ∷ cs) h = from_takes n t cs h
from_takes n t (Given k row ∷ cs) h = from_takes n t cs h
from_takes n t (Taken k ∷ cs) h = at (nat_le n k) refl (from_takes n t cs)
  where
    at : (b : Bool) → nat_le n k ≡ b → (first_from n cs ≡ Some t → 1 ≤ count_by (λ c. c == t) (takes_of cs)) → 1 ≤ count_by (λ c. c == t) (k ∷ takes_of cs)
    at true q ih = omega (arith, count_cons (λ c. c == t) k (takes_of cs), bit_yes (k == t) (subst (λ x. (k == x) ≡ true) (some_same k t (rw q at h)) (eq_self k)))
    at false q ih = omega (arith, ih (rw q at h), count_cons (λ c. c == t) k (takes_of cs))

take_takes : (t : ℕ) (cs : List Change) → first_take cs ≡ Some t → 1 ≤ count_by (λ c. c == t) (takes_of cs)
take_takes t [] h = none_some t h
take_takes t (Added es ∷ cs) h = take_takes t cs h
take_takes t (Given k row ∷ cs) h = take_takes t cs h
take_takes t (Taken k ∷ cs) h = omega (arith, count_cons (λ c. c == t) k (takes_of cs), bit_yes (k == t) (subst (λ x. (k == x) ≡ true) (some_same k t h) (eq_self k)))

more_takes : (t : ℕ) (c : Change) (cs : List Change) → 1 ≤ count_by (λ c. c == t) (takes_of cs) → 1 ≤ count_by (λ c. c == t) (takes_of (c ∷ cs))
more_takes t (Added es) cs h = h
more_takes t (Given k row) cs h = h
more_takes t (Taken k) cs h = omega (arith, h, count_cons (λ c. c == t) k (takes_of cs))

pub removal_takes : (test : Change → Bool) (t : ℕ) (cs : List Change) → first_take (following test cs) ≡ Some t → 1 ≤ count_by (λ c. c == t) (takes_of cs)
removal_takes test t [] h = none_some t h
removal_takes test t (c ∷ cs) h = at (test c) refl (removal_takes test t cs)
  where
    at : (b : Bool) → test c ≡ b → (first_take (following test cs) ≡ Some t → 1 ≤ count_by (λ c. c == t) (takes_of cs)) → 1 ≤ count_by (λ c. c == t) (takes_of (c ∷ cs))
    at true q ih = more_takes t c cs (take_takes t cs (rw q at h))
    at false q ih = more_takes t c cs (ih (rw q at h))

-- the takes of a row find an event once, if it has left the row
leaves_none : (ts : List ℕ) → sum_of (λ t. leaves t None) ts ≡ 0
leaves_none [] = refl
leaves_none (t ∷ ts) = omega (arith, leaves_none ts)

leaves_count : (n : ℕ) (ts : List ℕ) → sum_of (λ t. leaves t (Some n)) ts ≡ count_by (λ t. t == n) ts
leaves_count n [] = refl
leaves_count n (t ∷ ts) = omega (arith, leaves_count n ts, count_cons (λ t. t == n) t ts, ap (λ (b : Bool). cond {A = ℕ} b 1 0) (turned n t))
  where
    turned : (a b : ℕ) → (a == b) ≡ (b == a)
    turned a b = grind arith

pub leaves_once : (cs : List Change) (leaving : Option ℕ) → Ascends 0 cs → ((t : ℕ) → leaving ≡ Some t → 1 ≤ count_by (λ c. c == t) (takes_of cs)) → stays leaving + sum_of (λ t. leaves t leaving) (takes_of cs) ≡ 1
leaves_once cs None a h = omega (arith, leaves_none (takes_of cs))
leaves_once cs (Some n) a h = omega (arith, leaves_count n (takes_of cs), h n refl, takes_most 0 cs n a)
