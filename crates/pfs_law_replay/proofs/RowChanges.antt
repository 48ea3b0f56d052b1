-- What an entry changes is one row at most, and a next version is above the versions that its row had.
use Rattle.std.proofs.Common.{◌≡◌, refl, ℕ, ◌+◌, ◌≤◌, ◌==◌, Bool, true, false, cond, List, [], ◌∷◌, ◌++◌, ◌⊎◌, inl, inr, ap, subst, arith}
use Rattle.pfs_event.specs.declared.entry.Entry.{Entry}
use Rattle.pfs_event.specs.declared.entry.Entry.TheVariants as says
use Rattle.pfs_model.specs.declared.changes.Change.{Change}
use Rattle.pfs_model.specs.Chains.{change_at, row_change}
use Rattle.pfs_model.specs.PlainAgreement.{AreNext, last_of}

abbrev pub IsOne : List Change → Type 0
IsOne changes = (changes ≡ []) ⊎ ((change : Change) × (changes ≡ change ∷ []))

pub row_one : (entry : Entry) → IsOne (row_change entry)
row_one (says.Add row version) = inr (change_at row version, refl)
row_one (says.Ring row version) = inr (change_at row version, refl)
row_one (says.Long row version ticket) = inr (change_at row version, refl)
row_one (says.Take row version) = inr (change_at row version, refl)
row_one (says.Give row version from) = inr (change_at row version, refl)
row_one (says.Tag row version) = inr (change_at row version, refl)
row_one _ = inl refl

pub last_grows : (before changes : List Change) → AreNext before changes → (row : ℕ) → IsOne changes → last_of row before ≤ last_of row (changes ++ before)
last_grows before changes next row (inl e) = rw e (omega arith)
last_grows before changes next row (inr (c, e)) = rw e (at (c.row == row) refl) where
  one : AreNext before (c ∷ [])
  one = subst (AreNext before) e next

  at : (b : Bool) → (c.row == row) ≡ b → last_of row before ≤ cond b c.version (last_of row before)
  at true q =
      let up : c.version ≡ last_of c.row before + 1 = one.0 in
      let own : last_of c.row before ≡ last_of row before = ap (λ r. last_of r before) (same c.row row q) in
      omega (arith, up, own) where
        same : (a b : ℕ) → (a == b) ≡ true → a ≡ b
        same a b q = grind arith
  at false q = omega arith

pub head_is : {x y : Change} → (x ∷ []) ≡ (y ∷ []) → x ≡ y
head_is {x} {y} e = ap (λ changes. first changes x) e where
  first : List Change → Change → Change
  first [] d = d
  first (c ∷ cs) d = c
