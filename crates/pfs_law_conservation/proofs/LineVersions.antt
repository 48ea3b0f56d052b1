-- The versions of lines, from those of the changes that entries are.
use Rattle.std.proofs.Common.{◌≡◌, refl, ℕ, ◌+◌, ◌≤◌, ◌==◌, ◌&&◌, Bool, true, false, cond, nat_lt, nat_le, List, [], ◌∷◌, ◌++◌, length, ap, ◌∙◌, arith}
use Rattle.pfs_lemmas.proofs.Numbers.{eq_self}
use Rattle.pfs_conservation.specs.RowChains.{Change as Moved, Added, Taken, Given}
use Rattle.pfs_conservation.specs.PrintedChanges.{Tagged, standing, changes_of}
use Rattle.pfs_event.specs.declared.entry.Entry.{Entry}
use Rattle.pfs_event.specs.declared.entry.Entry.TheVariants as says
use Rattle.pfs_model.specs.declared.changes.Change.{Change}
use Rattle.pfs_model.specs.Chains.{Each, times, change_at, row_change, each_of, is_of, is_that, IsChained}
use Rattle.pfs_model.specs.EntryPlaces.{Placed}
use Rattle.pfs_law_conservation.specs.KindLines.{brought_by, lines_at, all_lines}
use Rattle.pfs_law_conservation.proofs.RowLines.{bit_no, bit_yes, bit_most, length_if, apart_of}

-- rows that pass the test have neither events of rings nor infos
abbrev pub IsCells : (ℕ → Bool) → Entry → Type 0
IsCells test (says.Ring row version) = test row ≡ false
IsCells test (says.Long row version ticket) = test row ≡ false
IsCells test (says.Tag row version) = test row ≡ false
IsCells test entry = Unit {0}

abbrev pub AreCells : (ℕ → Bool) → List Placed → Type 0
AreCells test ps = Each (λ (p : Placed). IsCells test p.entry) ps

-- so they have as many lines as changes
pub changes_counted : (test : ℕ → Bool) (row : ℕ) → test row ≡ true → (ps : List Placed) → AreCells test ps → changes_of (all_lines ps) row ≡ times (is_of row) (each_of row_change ps)
changes_counted test row t [] h = refl
changes_counted test row t (p ∷ ps) h = by p.entry h.0 (changes_counted test row t ps h.1) where
  other : (at : ℕ) → test at ≡ false → changes_of (all_lines ps) row ≡ times (is_of row) (each_of row_change ps) → changes_of (all_lines ps) row ≡ cond {A = ℕ} (at == row) 1 0 + times (is_of row) (each_of row_change ps)
  other at f ih = omega (arith, ih, bit_no (at == row) (apart_of test at row f t))

  by : (e : Entry) → IsCells test e → changes_of (all_lines ps) row ≡ times (is_of row) (each_of row_change ps) → changes_of (lines_at p e ++ all_lines ps) row ≡ times (is_of row) (row_change e ++ each_of row_change ps)
  by (says.Add at version) c ih = ap (λ n. cond {A = ℕ} (at == row) 1 0 + n) ih
  by (says.Take at version) c ih = ap (λ n. cond {A = ℕ} (at == row) 1 0 + n) ih
  by (says.Give at version from) c ih = ap (λ n. cond {A = ℕ} (at == row) 1 0 + n) ih
  by (says.Ring at version) c ih = other at c ih
  by (says.Long at version ticket) c ih = other at c ih
  by (says.Tag at version) c ih = other at c ih
  by _ c ih = ih

-- at a version stand no more lines than changes
pub standing_few : (row version : ℕ) (ps : List Placed) → length (standing (all_lines ps) row version) ≤ times (is_that (change_at row version)) (each_of row_change ps)
standing_few row version [] = omega arith
standing_few row version (p ∷ ps) = by p.entry (standing_few row version ps) where
  Few : Type 0
  Few = length (standing (all_lines ps) row version) ≤ times (is_that (change_at row version)) (each_of row_change ps)

  one : (at v : ℕ) (x : Moved) → Few → length (cond ((at == row) && (v == version)) (x ∷ []) [] ++ standing (all_lines ps) row version) ≤ cond {A = ℕ} ((at == row) && (v == version)) 1 0 + times (is_that (change_at row version)) (each_of row_change ps)
  one at v x ih = omega (arith, ih, length_if ((at == row) && (v == version)) x (standing (all_lines ps) row version))

  more : (b : Bool) → Few → length (standing (all_lines ps) row version) ≤ cond {A = ℕ} b 1 0 + times (is_that (change_at row version)) (each_of row_change ps)
  more b ih = omega (arith, ih)

  by : (e : Entry) → Few → length (standing (lines_at p e ++ all_lines ps) row version) ≤ times (is_that (change_at row version)) (row_change e ++ each_of row_change ps)
  by (says.Add at v) ih = one at v (Added (brought_by p at)) ih
  by (says.Take at v) ih = one at v (Taken p.context.action) ih
  by (says.Give at v from) ih = one at v (Given p.context.action from) ih
  by (says.Ring at v) ih = more ((at == row) && (v == version)) ih
  by (says.Long at v ticket) ih = more ((at == row) && (v == version)) ih
  by (says.Tag at v) ih = more ((at == row) && (v == version)) ih
  by _ ih = ih

-- and a chain has one there at most
pub chain_one : (changes : List Change) → IsChained changes → (change : Change) → times (is_that change) changes ≤ 1
chain_one changes c change = let e : times (is_that change) changes ≡ cond (nat_lt 0 change.version && nat_le change.version (times (is_of change.row) changes)) 1 0 = c change in omega (arith, e, bit_most (nat_lt 0 change.version && nat_le change.version (times (is_of change.row) changes)))

in_range : (n v m : ℕ) → 1 ≤ n → n ≡ cond {A = ℕ} (nat_lt 0 v && nat_le v m) 1 0 → (1 ≤ v) × (v ≤ m)
in_range n v m l e = at (nat_lt 0 v && nat_le v m) refl e where
  at : (b : Bool) → (nat_lt 0 v && nat_le v m) ≡ b → n ≡ cond {A = ℕ} b 1 0 → (1 ≤ v) × (v ≤ m)
  at true q e = (low v m q, high v m q) where
    low : (v m : ℕ) → (nat_lt 0 v && nat_le v m) ≡ true → 1 ≤ v
    low v m q = grind arith

    high : (v m : ℕ) → (nat_lt 0 v && nat_le v m) ≡ true → v ≤ m
    high v m q = grind arith
  at false q e = absurd (omega (arith, l, e))

-- a change in a chain has a version from 1 to the number of its row's changes
pub chain_range : (changes : List Change) → IsChained changes → (change : Change) → 1 ≤ times (is_that change) changes → (1 ≤ change.version) × (change.version ≤ times (is_of change.row) changes)
chain_range changes c change l = in_range (times (is_that change) changes) change.version (times (is_of change.row) changes) l (c change)

pub that_self : (row version : ℕ) → is_that (change_at row version) (change_at row version) ≡ true
that_self row version = ap (λ b. b && (version == version)) (eq_self row) ∙ eq_self version

-- so has each line of these entries, where their changes are among those of the chain
pub each_ranged : (changes : List Change) → IsChained changes → (ps : List Placed)
    → ((change : Change) → times (is_that change) (each_of row_change ps) ≤ times (is_that change) changes)
    → Each (λ (line : Tagged). (1 ≤ line.version) × (line.version ≤ times (is_of line.row) changes)) (all_lines ps)
each_ranged changes c [] h = tt
each_ranged changes c (p ∷ ps) h = by p.entry h (each_ranged changes c ps) where
  Ranged : List Tagged → Type 0
  Ranged lines = Each (λ (line : Tagged). (1 ≤ line.version) × (line.version ≤ times (is_of line.row) changes)) lines

  Among : List Change → Type 0
  Among cs = (change : Change) → times (is_that change) cs ≤ times (is_that change) changes

  rest : (b : Change) → Among (b ∷ each_of row_change ps) → Among (each_of row_change ps)
  rest b h change = let l : cond {A = ℕ} (is_that change b) 1 0 + times (is_that change) (each_of row_change ps) ≤ times (is_that change) changes = h change in omega (arith, l)

  own : (at v : ℕ) → Among (change_at at v ∷ each_of row_change ps) → (1 ≤ v) × (v ≤ times (is_of at) changes)
  own at v h =
      let l : cond {A = ℕ} (is_that (change_at at v) (change_at at v)) 1 0 + times (is_that (change_at at v)) (each_of row_change ps) ≤ times (is_that (change_at at v)) changes = h (change_at at v) in
      chain_range changes c (change_at at v) (omega (arith, l, bit_yes (is_that (change_at at v) (change_at at v)) (that_self at v)))

  by : (e : Entry) → Among (row_change e ++ each_of row_change ps) → (Among (each_of row_change ps) → Ranged (all_lines ps)) → Ranged (lines_at p e ++ all_lines ps)
  by (says.Add at v) h go = (own at v h, go (rest (change_at at v) h))
  by (says.Take at v) h go = (own at v h, go (rest (change_at at v) h))
  by (says.Give at v from) h go = (own at v h, go (rest (change_at at v) h))
  by (says.Ring at v) h go = go (rest (change_at at v) h)
  by (says.Long at v ticket) h go = go (rest (change_at at v) h)
  by (says.Tag at v) h go = go (rest (change_at at v) h)
  by _ h go = go h
