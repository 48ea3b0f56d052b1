-- The numbers of actions, from 1 on.
use Rattle.std.proofs.Common.{◌≡◌, refl, ℕ, zero, suc, ◌<◌, ◌≤◌, ◌==◌, max, Bool, true, false, ◌&&◌, cond, nat_lt, nat_le, List, [], ◌∷◌, ◌++◌, sym, ◌∙◌, ap, subst, inl, inr, arith}
use Rattle.std.proofs.lemmas.Bool.{leb-false}
use Rattle.std.proofs.lemmas.Bool.Decides.{nat_tests}
use Rattle.pfs_event.specs.declared.entry.Entry.{Entry}
use Rattle.pfs_model.specs.declared.changes.Change.{Change}
use Rattle.pfs_model.specs.Actions.{IsAmong}
use Rattle.pfs_model.specs.Chains.{AreChained, IsChained, each_of, is_of, is_that, times}
use Rattle.pfs_model.specs.EntryPlaces.{Placed, up_to_phase}
use Rattle.pfs_model.proofs.Members.{among_back, among_front}

last_phase : List Placed → ℕ
last_phase [] = 0
last_phase (p ∷ ps) = max p.phase (last_phase ps)

up_to_last : (phase : ℕ) (ps : List Placed) → last_phase ps ≤ phase → up_to_phase phase ps ≡ ps
unfolding last_phase
up_to_last phase [] h = refl
up_to_last phase (p ∷ ps) h = at (nat_le p.phase phase) refl (up_to_last phase ps (omega (arith, h))) where
  at : (b : Bool) → nat_le p.phase phase ≡ b → up_to_phase phase ps ≡ ps → cond b (p ∷ []) [] ++ up_to_phase phase ps ≡ p ∷ ps
  at true e s = ap (λ z. p ∷ z) s
  at false e s = absurd (omega (arith, leb-false p.phase phase e, h))

that_self : (c : Change) → is_that c c ≡ true
that_self c = both (c.row == c.row) (c.version == c.version) (self c.row) (self c.version) where
  self : (n : ℕ) → (n == n) ≡ true
  self n = grind (arith, nat_tests)

  both : (a b : Bool) → a ≡ true → b ≡ true → (a && b) ≡ true
  both true true p q = refl
  both true false p q = absurd (cc)
  both false b p q = absurd (cc)

counted : (test : Change → Bool) (cs : List Change) (c : Change) → IsAmong c cs → test c ≡ true → 1 ≤ times test cs
counted test [] c i t = absurd i
counted test (d ∷ cs) c (inl e) t = let one : ◌≡◌ {A = ℕ} (cond (test d) 1 0) 1 = ap {B = ℕ} (λ b. cond b 1 0) (ap test e ∙ t) in omega (arith, one)
counted test (d ∷ cs) c (inr i) t = omega (arith, counted test cs c i t)

above_none : (n : ℕ) (other : Bool) (times : ℕ) → 1 ≤ times → times ≡ cond (nat_lt 0 n && other) 1 0 → 0 < n
above_none zero other times one e = absurd (omega (arith, one, e))
above_none (suc n) other times one e = omega arith

-- each number that stands among the entries is above 0
pub positive : (given : Entry → List Change) (all : List Placed) → AreChained given all → (c : Change) → IsAmong c (each_of given all) → 0 < c.version
positive given all chained c there =
    let is : IsChained (each_of given all) = subst (λ z. IsChained (each_of given z)) (up_to_last (last_phase all) all (omega arith)) (chained (last_phase all)) in
    above_none c.version (nat_le c.version (times (is_of c.row) (each_of given all))) (times (is_that c) (each_of given all))
    (counted (is_that c) (each_of given all) c there (that_self c)) (is c)

pub among_each : (given : Entry → List Change) (place : Placed) (all : List Placed) (c : Change) → IsAmong place all → IsAmong c (given place.entry) → IsAmong c (each_of given all)
among_each given place [] c i j = absurd i
among_each given place (p ∷ ps) c (inl e) j = among_front c (given p.entry) (each_of given ps) (subst (λ (z : Placed). IsAmong c (given z.entry)) (sym e) j)
among_each given place (p ∷ ps) c (inr i) j = among_back c (given p.entry) (each_of given ps) (among_each given place ps c i j)
