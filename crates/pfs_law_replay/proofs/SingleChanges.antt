-- Chained changes stand once each.
use Rattle.std.proofs.Common.{◌≡◌, refl, ℕ, ◌+◌, ◌≤◌, ◌==◌, max, Bool, true, false, ◌&&◌, cond, nat_lt, nat_le, List, [], ◌∷◌, ◌++◌, sym, ◌∙◌, ap, subst, inl, inr, arith}
use Rattle.pfs_model.specs.declared.changes.Change.{Change}
use Rattle.pfs_model.specs.Actions.{IsAmong}
use Rattle.pfs_model.specs.Chains.{each_of, is_of, is_that, row_change, times}
use Rattle.pfs_model.specs.EntryPlaces.{Placed, up_to_phase}
use Rattle.pfs_model.proofs.ChainGrowth.{times_append}
use Rattle.pfs_law_replay.specs.SingleChanges.{OnceLaw}

-- the greatest phase
last_phase : List Placed → ℕ
last_phase [] = 0
last_phase (place ∷ places) = max place.phase (last_phase places)

in_all : (places : List Placed) (phase : ℕ) → last_phase places ≤ phase → up_to_phase phase places ≡ places
unfolding last_phase
in_all [] phase h = refl
in_all (place ∷ places) phase h = at (nat_le place.phase phase) (low place.phase phase (omega (arith, h))) (in_all places phase (omega (arith, h))) where
  low : (m n : ℕ) → m ≤ n → nat_le m n ≡ true
  low m n l = grind arith

  at : (b : Bool) → b ≡ true → up_to_phase phase places ≡ places → cond b (place ∷ []) [] ++ up_to_phase phase places ≡ place ∷ places
  at true e rest = ap (λ z. place ∷ z) rest
  at false e rest = absurd (cc)

self_test : (change : Change) → is_that change change ≡ true
self_test change = both (change.row == change.row) (change.version == change.version) (eq_self change.row) (eq_self change.version) where
  eq_self : (n : ℕ) → (n == n) ≡ true
  eq_self n = grind arith

  both : (a b : Bool) → a ≡ true → b ≡ true → (a && b) ≡ true
  both true true p q = refl
  both true false p q = absurd (cc)
  both false b p q = absurd (cc)

one_time : (change : Change) (changes : List Change) → changes ≡ change ∷ [] → times (is_that change) changes ≡ 1
one_time change changes e = ap (times (is_that change)) e ∙ ap (λ b. cond b 1 0 + 0) (self_test change)

some_time : (change : Change) (places : List Placed) (one : Placed) → IsAmong one places → row_change one.entry ≡ change ∷ [] → 1 ≤ times (is_that change) (each_of row_change places)
some_time change [] one i e = absurd i
some_time change (place ∷ places) one (inl q) e =
    let own : times (is_that change) (row_change place.entry) ≡ 1 = one_time change (row_change place.entry) (ap (λ (z : Placed). row_change z.entry) q ∙ e) in
    let all : times (is_that change) (row_change place.entry ++ each_of row_change places) ≡ times (is_that change) (row_change place.entry) + times (is_that change) (each_of row_change places) = times_append (is_that change) (row_change place.entry) (each_of row_change places) in
    omega (arith, own, all)
some_time change (place ∷ places) one (inr i) e =
    let rest : 1 ≤ times (is_that change) (each_of row_change places) = some_time change places one i e in
    let all : times (is_that change) (row_change place.entry ++ each_of row_change places) ≡ times (is_that change) (row_change place.entry) + times (is_that change) (each_of row_change places) = times_append (is_that change) (row_change place.entry) (each_of row_change places) in
    omega (arith, rest, all)

same_place : (change : Change) (places : List Placed) (one other : Placed) → times (is_that change) (each_of row_change places) ≤ 1 → IsAmong one places → IsAmong other places
    → row_change one.entry ≡ change ∷ [] → row_change other.entry ≡ change ∷ [] → one ≡ other
same_place change [] one other few i j e f = absurd i
same_place change (place ∷ places) one other few (inl p) (inl q) e f = sym p ∙ q
same_place change (place ∷ places) one other few (inl p) (inr j) e f =
    let own : times (is_that change) (row_change place.entry) ≡ 1 = one_time change (row_change place.entry) (ap (λ (z : Placed). row_change z.entry) p ∙ e) in
    let rest : 1 ≤ times (is_that change) (each_of row_change places) = some_time change places other j f in
    let all : times (is_that change) (row_change place.entry ++ each_of row_change places) ≡ times (is_that change) (row_change place.entry) + times (is_that change) (each_of row_change places) = times_append (is_that change) (row_change place.entry) (each_of row_change places) in
    absurd (omega (arith, own, rest, all, few))
same_place change (place ∷ places) one other few (inr i) (inl q) e f =
    let own : times (is_that change) (row_change place.entry) ≡ 1 = one_time change (row_change place.entry) (ap (λ (z : Placed). row_change z.entry) q ∙ f) in
    let rest : 1 ≤ times (is_that change) (each_of row_change places) = some_time change places one i e in
    let all : times (is_that change) (row_change place.entry ++ each_of row_change places) ≡ times (is_that change) (row_change place.entry) + times (is_that change) (each_of row_change places) = times_append (is_that change) (row_change place.entry) (each_of row_change places) in
    absurd (omega (arith, own, rest, all, few))
same_place change (place ∷ places) one other few (inr i) (inr j) e f =
    let all : times (is_that change) (row_change place.entry ++ each_of row_change places) ≡ times (is_that change) (row_change place.entry) + times (is_that change) (each_of row_change places) = times_append (is_that change) (row_change place.entry) (each_of row_change places) in
    same_place change places one other (omega (arith, all, few)) i j e f

pub once : OnceLaw
once all chained change one other i j e f = same_place change all one other few i j e f where
  most : (b : Bool) → cond {A = ℕ} b 1 0 ≤ 1
  most true = omega arith
  most false = omega arith

  few : times (is_that change) (each_of row_change all) ≤ 1
  few =
      subst (λ places. times (is_that change) (each_of row_change places) ≤ 1) (in_all all (last_phase all) (omega arith))
      (subst (λ n. n ≤ 1) (sym (chained (last_phase all) change))
      (most (nat_lt 0 change.version && nat_le change.version (times (is_of change.row) (each_of row_change (up_to_phase (last_phase all) all))))))
