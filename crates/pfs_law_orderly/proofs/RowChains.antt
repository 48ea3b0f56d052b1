-- Chained changes, by their places.
use Rattle.std.proofs.Common.{◌≡◌, refl, ℕ, zero, suc, ◌+◌, ◌-◌, ◌<◌, ◌≤◌, ◌==◌, max, Bool, true, false, ◌&&◌, cond, nat_lt, nat_le, List, [], ◌∷◌, ◌++◌, sym, ◌∙◌, ap, subst, arith, Some}
use Rattle.std.specs.Prelude.{slice_get}
use Rattle.std.proofs.lemmas.Bool.{eqb-true, leb-false, ltb-false}
use Rattle.std.proofs.lemmas.Bool.Decides.{nat_tests}
use Rattle.std.proofs.lemmas.Option.{same_Some}
use Rattle.pfs_event.specs.declared.entry.Entry.{Entry}
use Rattle.pfs_model.specs.declared.changes.Change.{Change}
use Rattle.pfs_model.specs.Chains.{AreChained, IsChained, change_at, each_of, is_of, is_that, times}
use Rattle.pfs_model.specs.EntryPlaces.{Placed, up_to_phase}

last_phase : List Placed → ℕ
last_phase [] = 0
last_phase (p ∷ ps) = max p.phase (last_phase ps)

up_to_last : (phase : ℕ) (ps : List Placed) → last_phase ps ≤ phase → up_to_phase phase ps ≡ ps
unfolding last_phase
up_to_last phase [] h = refl
up_to_last phase (p ∷ ps) h = at (nat_le p.phase phase) refl (up_to_last phase ps (omega (arith, h))) where
  at : (b : Bool) → nat_le p.phase phase ≡ b → up_to_phase phase ps ≡ ps → cond b (p ∷ []) [] ++ up_to_phase phase ps ≡ p ∷ ps
  at true e s = ap (λ z. p ∷ z) s
  at false e s = absurd (omega (arith, leb-false p.phase phase e, h))

-- so all of them are
pub all_chained : (given : Entry → List Change) (all : List Placed) → AreChained given all → IsChained (each_of given all)
all_chained given all chained = subst (λ z. IsChained (each_of given z)) (up_to_last (last_phase all) all (omega arith)) (chained (last_phase all))

pub that_self : (c : Change) → is_that c c ≡ true
that_self c = both (c.row == c.row) (c.version == c.version) (self c.row) (self c.version) where
  self : (n : ℕ) → (n == n) ≡ true
  self n = grind (arith, nat_tests)

  both : (a b : Bool) → a ≡ true → b ≡ true → (a && b) ≡ true
  both true true p q = refl
  both true false p q = absurd (cc)
  both false b p q = absurd (cc)

pub that_is : (c d : Change) → is_that c d ≡ true → d ≡ c
that_is c d e = on (d.row == c.row) (d.version == c.version) refl refl e where
  on : (a b : Bool) → (d.row == c.row) ≡ a → (d.version == c.version) ≡ b → (a && b) ≡ true → d ≡ c
  on true true p q h = ap (λ z. change_at z d.version) (eqb-true d.row c.row p) ∙ ap (change_at c.row) (eqb-true d.version c.version q)
  on true false p q h = absurd (cc)
  on false b p q h = absurd (cc)

pub some_times : (test : Change → Bool) (cs : List Change) (i : ℕ) (c : Change) → slice_get cs i ≡ Some c → test c ≡ true → 1 ≤ times test cs
some_times test [] i c g e = absurd (cc)
some_times test (d ∷ cs) zero c g e =
    let own : cond {A = ℕ} (test d) 1 0 ≡ 1 = ap (λ b. cond b 1 0) (ap test (same_Some d c g) ∙ e) in omega (arith, own)
some_times test (d ∷ cs) (suc i) c g e = let rest : 1 ≤ times test cs = some_times test cs i c g e in omega (arith, rest)

pub times_there : (test : Change → Bool) (cs : List Change) → 1 ≤ times test cs → (i : ℕ) × (c : Change) × (slice_get cs i ≡ Some c) × (test c ≡ true)
times_there test [] l = absurd (omega (arith, l))
times_there test (d ∷ cs) l = on (test d) refl l (times_there test cs) where
  on : (b : Bool) → test d ≡ b → 1 ≤ cond b 1 0 + times test cs
      → (1 ≤ times test cs → (i : ℕ) × (c : Change) × (slice_get cs i ≡ Some c) × (test c ≡ true))
      → (i : ℕ) × (c : Change) × (slice_get (d ∷ cs) i ≡ Some c) × (test c ≡ true)
  on true e l rest = (zero, d, refl, e)
  on false e l rest =
      let h : (i : ℕ) × (c : Change) × (slice_get cs i ≡ Some c) × (test c ≡ true) = rest (omega (arith, l)) in (suc h.0, h.1, h.2, h.3)

-- what stands at most once stands at one place
pub times_single : (test : Change → Bool) (cs : List Change) → times test cs ≤ 1 → (i j : ℕ) (c d : Change) → slice_get cs i ≡ Some c → slice_get cs j ≡ Some d
    → test c ≡ true → test d ≡ true → i ≡ j
times_single test [] few i j c d g h s t = absurd (cc)
times_single test (e ∷ cs) few zero zero c d g h s t = refl
times_single test (e ∷ cs) few zero (suc j) c d g h s t =
    let own : cond {A = ℕ} (test e) 1 0 ≡ 1 = ap (λ b. cond b 1 0) (ap test (same_Some e c g) ∙ s) in
    let rest : 1 ≤ times test cs = some_times test cs j d h t in
    absurd (omega (arith, own, rest, few))
times_single test (e ∷ cs) few (suc i) zero c d g h s t =
    let own : cond {A = ℕ} (test e) 1 0 ≡ 1 = ap (λ b. cond b 1 0) (ap test (same_Some e d h) ∙ t) in
    let rest : 1 ≤ times test cs = some_times test cs i c g s in
    absurd (omega (arith, own, rest, few))
times_single test (e ∷ cs) few (suc i) (suc j) c d g h s t = ap suc (times_single test cs (omega (arith, few)) i j c d g h s t)

most_one : (b : Bool) → cond {A = ℕ} b 1 0 ≤ 1
most_one true = omega arith
most_one false = omega arith

-- of a chain
module _ (cs : List Change) (chained : IsChained cs) where
  pub chain_few : (c : Change) → times (is_that c) cs ≤ 1
  chain_few c = subst (λ z. z ≤ 1) (sym (chained c)) (most_one (nat_lt 0 c.version && nat_le c.version (times (is_of c.row) cs)))

  pub chain_single : (i j : ℕ) (c : Change) → slice_get cs i ≡ Some c → slice_get cs j ≡ Some c → i ≡ j
  chain_single i j c g h = times_single (is_that c) cs (chain_few c) i j c c g h (that_self c) (that_self c)

  chain_within : (i : ℕ) (c : Change) → slice_get cs i ≡ Some c → (0 < c.version) × (c.version ≤ times (is_of c.row) cs)
  chain_within i c g = on (nat_lt 0 c.version) (nat_le c.version (times (is_of c.row) cs)) refl refl
      (subst (λ z. 1 ≤ z) (chained c) (some_times (is_that c) cs i c g (that_self c))) where
        on : (a b : Bool) → nat_lt 0 c.version ≡ a → nat_le c.version (times (is_of c.row) cs) ≡ b → 1 ≤ cond (a && b) 1 0
            → (0 < c.version) × (c.version ≤ times (is_of c.row) cs)
        on true true p q l = (grind (arith, nat_tests), grind (arith, nat_tests))
        on true false p q l = absurd (omega (arith, l))
        on false b p q l = absurd (omega (arith, l))

  pub chain_positive : (i : ℕ) (c : Change) → slice_get cs i ≡ Some c → 0 < c.version
  chain_positive i c g = (chain_within i c g).0

  pub chain_there : (c : Change) → 0 < c.version → c.version ≤ times (is_of c.row) cs → (i : ℕ) × (slice_get cs i ≡ Some c)
  chain_there c low high =
      let h : (i : ℕ) × (d : Change) × (slice_get cs i ≡ Some d) × (is_that c d ≡ true) = times_there (is_that c) cs (subst (λ z. 1 ≤ z) (sym (chained c)) (one (nat_lt 0 c.version) (nat_le c.version (times (is_of c.row) cs)) refl refl)) in
      (h.0, h.2 ∙ ap Some (that_is c h.1 h.3)) where
        one : (a b : Bool) → nat_lt 0 c.version ≡ a → nat_le c.version (times (is_of c.row) cs) ≡ b → 1 ≤ cond {A = ℕ} (a && b) 1 0
        one true true p q = omega arith
        one true false p q = absurd (omega (arith, high, leb-false c.version (times (is_of c.row) cs) q))
        one false b p q = absurd (omega (arith, low, ltb-false 0 c.version p))

  -- each version but the first has one before it
  pub chain_before : (i : ℕ) (c : Change) → slice_get cs i ≡ Some c → 1 < c.version → (j : ℕ) × (slice_get cs j ≡ Some (change_at c.row (c.version - 1)))
  chain_before i c g more =
      let within : (0 < c.version) × (c.version ≤ times (is_of c.row) cs) = chain_within i c g in
      let high : c.version ≤ times (is_of c.row) cs = within.1 in
      chain_there (change_at c.row (c.version - 1)) (omega (arith, more)) (omega (arith, high))
