-- Lines of some rows among all lines.
use Rattle.std.proofs.Common.{◌≡◌, refl, ℕ, ◌+◌, ◌≤◌, ◌==◌, ◌&&◌, Bool, true, false, cond, List, [], ◌∷◌, ◌++◌, length, ap, subst, ◌⊎◌, inl, inr, arith}
use Rattle.std.proofs.lemmas.Bool.{and_parts, eqb-true}
use Rattle.pfs_conservation.specs.RowChains.{Change}
use Rattle.pfs_conservation.specs.PrintedChanges.{Tagged, change_of, is_at, standing, changes_of, Stands, Within}
use Rattle.pfs_conservation.specs.Prints.{is_move, Above, Rises, AreBy}
use Rattle.pfs_model.specs.Chains.{Each}
use Rattle.pfs_law_conservation.specs.KindLines.{lines_on}

pub bit_no : (b : Bool) → b ≡ false → cond {A = ℕ} b 1 0 ≡ 0
bit_no true q = absurd (cc)
bit_no false q = refl

pub bit_yes : (b : Bool) → b ≡ true → cond {A = ℕ} b 1 0 ≡ 1
bit_yes true q = refl
bit_yes false q = absurd (cc)

pub bit_most : (b : Bool) → cond {A = ℕ} b 1 0 ≤ 1
bit_most true = omega arith
bit_most false = omega arith

pub length_if : {X : Type 0} (b : Bool) (x : X) (ys : List X) → length (cond b (x ∷ []) [] ++ ys) ≡ cond {A = ℕ} b 1 0 + length ys
length_if true x ys = omega arith
length_if false x ys = omega arith

-- a row that fails the test is another than one that passes
pub apart_of : (test : ℕ → Bool) (a b : ℕ) → test a ≡ false → test b ≡ true → (a == b) ≡ false
apart_of test a b f t = at (a == b) refl where
  at : (c : Bool) → (a == b) ≡ c → c ≡ false
  at true q = let e : test a ≡ test b = ap test (eqb-true a b q) in absurd (cc)
  at false q = refl

-- a line of such a row is one of all
pub sifted : (test : ℕ → Bool) (lines : List Tagged) (row version : ℕ) (change : Change) → Stands (lines_on test lines) row version change → (test row ≡ true) × Stands lines row version change
sifted test [] row version change s = absurd s
sifted test (line ∷ lines) row version change s = at (test line.row) refl s (sifted test lines row version change) where
  Goal : Type 0
  Goal = (test row ≡ true) × (((is_at line row version ≡ true) × (change_of line ≡ change)) ⊎ Stands lines row version change)

  on : (test row ≡ true) × Stands lines row version change → Goal
  on g = (g.0, inr g.1)

  at : (b : Bool) → test line.row ≡ b → Stands (cond b (line ∷ []) [] ++ lines_on test lines) row version change → (Stands (lines_on test lines) row version change → (test row ≡ true) × Stands lines row version change) → Goal
  at true q (inl h) go = (subst (λ r. test r ≡ true) (eqb-true line.row row (and_parts _ _ h.0).0) q, inl h)
  at true q (inr s) go = on (go s)
  at false q s go = on (go s)

-- a row that passes has all its lines
pub sifted_changes : (test : ℕ → Bool) (lines : List Tagged) (row : ℕ) → test row ≡ true → changes_of (lines_on test lines) row ≡ changes_of lines row
sifted_changes test [] row t = refl
sifted_changes test (line ∷ lines) row t = at (test line.row) refl (sifted_changes test lines row t) where
  at : (b : Bool) → test line.row ≡ b → changes_of (lines_on test lines) row ≡ changes_of lines row → changes_of (cond b (line ∷ []) [] ++ lines_on test lines) row ≡ cond {A = ℕ} (line.row == row) 1 0 + changes_of lines row
  at true q ih = ap (λ n. cond {A = ℕ} (line.row == row) 1 0 + n) ih
  at false q ih = omega (arith, ih, bit_no (line.row == row) (apart_of test line.row row q t))

pub sifted_few : (test : ℕ → Bool) (lines : List Tagged) (row version : ℕ) → length (standing (lines_on test lines) row version) ≤ length (standing lines row version)
sifted_few test [] row version = omega arith
sifted_few test (line ∷ lines) row version = at (test line.row) (sifted_few test lines row version) where
  at : (b : Bool) → length (standing (lines_on test lines) row version) ≤ length (standing lines row version) → length (standing (cond b (line ∷ []) [] ++ lines_on test lines) row version) ≤ length (cond (is_at line row version) (change_of line ∷ []) [] ++ standing lines row version)
  at true ih = omega (arith, ih, length_if (is_at line row version) (change_of line) (standing (lines_on test lines) row version), length_if (is_at line row version) (change_of line) (standing lines row version))
  at false ih = omega (arith, ih, length_if (is_at line row version) (change_of line) (standing lines row version))

-- what holds of all lines holds of those
pub each_sifted : (test : ℕ → Bool) (P : Tagged → Type 0) (lines : List Tagged) → Each P lines → Each (λ line. (test line.row ≡ true) × P line) (lines_on test lines)
each_sifted test P [] h = tt
each_sifted test P (line ∷ lines) h = at (test line.row) refl (each_sifted test P lines h.1) where
  at : (b : Bool) → test line.row ≡ b → Each (λ line. (test line.row ≡ true) × P line) (lines_on test lines) → Each (λ line. (test line.row ≡ true) × P line) (cond b (line ∷ []) [] ++ lines_on test lines)
  at true q r = ((q, h.0), r)
  at false q r = r

pub within_of : (all lines : List Tagged) → Each (λ line. (1 ≤ line.version) × (line.version ≤ changes_of all line.row)) lines → Within all lines
within_of all [] h = tt
within_of all (line ∷ lines) h = (h.0.0, h.0.1, within_of all lines h.1)

pub by_of : (by : ℕ → ℕ) (lines : List Tagged) → Each (λ line. is_move line.kind ≡ true → line.session ≡ by line.action) lines → AreBy by lines
by_of by [] h = tt
by_of by (line ∷ lines) h = (h.0, by_of by lines h.1)

sifted_above : (test : ℕ → Bool) (line : Tagged) (lines : List Tagged) → Above line lines → Above line (lines_on test lines)
sifted_above test line [] a = tt
sifted_above test line (next ∷ lines) a = at (test next.row) (sifted_above test line lines a.1) where
  at : (b : Bool) → Above line (lines_on test lines) → Above line (cond b (next ∷ []) [] ++ lines_on test lines)
  at true r = (a.0, r)
  at false r = r

pub sifted_rises : (test : ℕ → Bool) (lines : List Tagged) → Rises lines → Rises (lines_on test lines)
sifted_rises test [] r = tt
sifted_rises test (line ∷ lines) r = at (test line.row) (sifted_rises test lines r.1) where
  at : (b : Bool) → Rises (lines_on test lines) → Rises (cond b (line ∷ []) [] ++ lines_on test lines)
  at true s = (sifted_above test line lines r.0, s)
  at false s = s
