-- Changes that each have the version one above their row's last are a chain.
use Rattle.std.proofs.Common.{◌≡◌, refl, ℕ, ◌+◌, ◌==◌, Bool, true, false, ◌&&◌, cond, nat_lt, nat_le, List, [], ◌∷◌, ◌++◌, ◌∙◌, ap, arith}
use Rattle.pfs_event.specs.declared.entry.Entry.{Entry}
use Rattle.pfs_event.specs.declared.entry.Entry.TheVariants as says
use Rattle.pfs_model.specs.declared.changes.Change.{Change}
use Rattle.pfs_model.specs.EntryPlaces.{Placed}
use Rattle.pfs_model.specs.Chains.{times, is_of, is_that, row_change, word_change, action_change, IsChained}
use Rattle.pfs_model.specs.PlainAgreement.{last_of, AreNext}

-- each change, the last first, is one above those before it
abbrev pub IsGrown : List Change → Type 0
IsGrown [] = Unit {0}
IsGrown (change ∷ changes) = (change.version ≡ last_of change.row changes + 1) × IsGrown changes

-- so the last version is the number of changes
pub grown_count : (row : ℕ) (changes : List Change) → IsGrown changes → last_of row changes ≡ times (is_of row) changes
grown_count row [] g = refl
grown_count row (change ∷ changes) g = at (change.row == row) refl (grown_count row changes g.1) (grown_count change.row changes g.1) where
  at : (b : Bool) → (change.row == row) ≡ b → last_of row changes ≡ times (is_of row) changes → last_of change.row changes ≡ times (is_of change.row) changes → cond b change.version (last_of row changes) ≡ cond {A = ℕ} b 1 0 + times (is_of row) changes
  at true q e own = same (eq_of _ _ q) where
    eq_of : (a b : ℕ) → (a == b) ≡ true → a ≡ b
    eq_of a b q = grind arith

    same : change.row ≡ row → change.version ≡ 1 + times (is_of row) changes
    same s = let v : change.version ≡ last_of change.row changes + 1 = g.0 in let w : last_of change.row changes ≡ last_of row changes = ap (λ r. last_of r changes) s in omega (arith, v, w, e)
  at false q e own = omega (arith, e)

-- one change more keeps the chain
chain_step : (w n v : ℕ) (same here : Bool) → v ≡ n + 1 → here ≡ (v == w) → cond {A = ℕ} here 1 0 + cond (nat_lt 0 w && nat_le w n) 1 0 ≡ cond (nat_lt 0 w && nat_le w (1 + n)) 1 0
chain_step w n v same here e h = grind arith

pub grown_chained : (changes : List Change) → IsGrown changes → IsChained changes
grown_chained [] g change = at change.version where
  at : (v : ℕ) → ◌≡◌ {A = ℕ} 0 (cond (nat_lt 0 v && nat_le v 0) 1 0)
  at v = grind arith
grown_chained (c ∷ changes) g change = at (c.row == change.row) refl (grown_chained changes g.1 change) where
  at : (b : Bool) → (c.row == change.row) ≡ b
      → times (is_that change) changes ≡ cond (nat_lt 0 change.version && nat_le change.version (times (is_of change.row) changes)) 1 0
      → cond {A = ℕ} (b && (c.version == change.version)) 1 0 + times (is_that change) changes
      ≡ cond (nat_lt 0 change.version && nat_le change.version (cond {A = ℕ} b 1 0 + times (is_of change.row) changes)) 1 0
  at true q e =
      let same : c.row ≡ change.row = eq_of _ _ q in
      let v : c.version ≡ last_of c.row changes + 1 = g.0 in
      let w : last_of c.row changes ≡ times (is_of change.row) changes = ap (λ r. last_of r changes) same ∙ grown_count change.row changes g.1 in
      rw e (chain_step change.version (times (is_of change.row) changes) c.version true (c.version == change.version) (omega (arith, v, w)) refl) where
        eq_of : (a b : ℕ) → (a == b) ≡ true → a ≡ b
        eq_of a b q = grind arith
  at false q e = rw e (none (times (is_of change.row) changes)) where
    none : (n : ℕ) → 0 + cond {A = ℕ} (nat_lt 0 change.version && nat_le change.version n) 1 0 ≡ cond (nat_lt 0 change.version && nat_le change.version (0 + n)) 1 0
    none n = grind arith

-- what an entry gives is one change at most
abbrev pub IsShort : List Change → Type 0
IsShort [] = Unit {0}
IsShort (change ∷ []) = Unit {0}
IsShort (change ∷ (other ∷ changes)) = ⊥

pub row_short : (entry : Entry) → IsShort (row_change entry)
row_short (says.Add row version) = tt
row_short (says.Ring row version) = tt
row_short (says.Long row version ticket) = tt
row_short (says.Take row version) = tt
row_short (says.Give row version from) = tt
row_short (says.Tag row version) = tt
row_short _ = tt

pub word_short : (entry : Entry) → IsShort (word_change entry)
word_short (says.Set word version flags) = tt
word_short _ = tt

pub action_short : (entry : Entry) → IsShort (action_change entry)
action_short (says.Connect action thread account user host) = tt
action_short (says.Act action) = tt
action_short _ = tt

pub grown_more : (before changes : List Change) → IsShort changes → AreNext before changes → IsGrown before → IsGrown (changes ++ before)
grown_more before [] s n g = g
grown_more before (change ∷ []) s n g = (n.0, g)
grown_more before (change ∷ (other ∷ changes)) s n g = absurd s

-- the changes before a list and in it: those before stand with the last first
abbrev pub onto : List Placed → List Placed → List Placed
onto [] places = places
onto (place ∷ earlier) places = onto earlier (place ∷ places)

pub times_append : {A : Type 0} (test : A → Bool) (xs ys : List A) → times test (xs ++ ys) ≡ times test xs + times test ys
times_append test [] ys = omega arith
times_append test (x ∷ xs) ys = let e : times test (xs ++ ys) ≡ times test xs + times test ys = times_append test xs ys in omega (arith, e)
