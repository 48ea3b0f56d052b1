-- What follows from a history alone.
use Rattle.std.proofs.Common.{◌≡◌, ℕ, eqb, eq-eqb, ne_eqb, ◌+◌, ◌≤◌, ◌≢◌, ◌⊎◌, cond, List, [], ◌∷◌, ◌++◌, ap, ◌∙◌, arith}
use Rattle.std.proofs.lemmas.Bool.{cond-false, cond-true}
use mathlib.Core.Logic.{dite}
use native.Mathlib.Decide.{ℕ_discrete}
use Rattle.pfs_switches.specs.declared.view.Setting.{Setting}
use Rattle.pfs_switches.specs.History.{Each, version, flags_at}

module _ {A : Type 0} where
  pub each_map : (P Q : A → Type 0) → ((x : A) → P x → Q x) → (xs : List A) → Each P xs → Each Q xs
  each_map P Q f [] e = tt
  each_map P Q f (x ∷ xs) e = (f x e.0, each_map P Q f xs e.1)

  pub each_both : (P Q R : A → Type 0) → ((x : A) → P x → Q x → R x) → (xs : List A) → Each P xs → Each Q xs → Each R xs
  each_both P Q R f [] e g = tt
  each_both P Q R f (x ∷ xs) e g = (f x e.0 g.0, each_both P Q R f xs e.1 g.1)

  pub each_append : (P : A → Type 0) (xs ys : List A) → Each P xs → Each P ys → Each P (xs ++ ys)
  each_append P [] ys e f = f
  each_append P (x ∷ xs) ys e f = (e.0, each_append P xs ys e.1 f)

module _ (p : Setting) (ps : List Setting) where
  pub version_here : (r : ℕ) → p.word ≡ r → version (p ∷ ps) r ≡ version ps r + 1
  version_here r h = cond-true (eqb p.word r) (version ps r + 1) (version ps r) (eq-eqb p.word r h)

  pub version_other : (r : ℕ) → p.word ≢ r → version (p ∷ ps) r ≡ version ps r
  version_other r h = cond-false (eqb p.word r) (version ps r + 1) (version ps r) (ne_eqb p.word r h)

  pub version_more : (r : ℕ) → version ps r ≤ version (p ∷ ps) r
  version_more r = dite (ℕ_discrete p.word r) (λ e. let v = version_here r e in omega arith) (λ n. let v = version_other r n in omega arith)

  module _ (start : List ℕ) where
    flags_row : (r k : ℕ) → p.word ≡ r → flags_at start (p ∷ ps) r k ≡ cond (eqb p.version k) p.flags (flags_at start ps r k)
    flags_row r k h = cond-true (eqb p.word r) (cond (eqb p.version k) p.flags (flags_at start ps r k)) (flags_at start ps r k) (eq-eqb p.word r h)

    pub flags_here : (r k : ℕ) → p.word ≡ r → p.version ≡ k → flags_at start (p ∷ ps) r k ≡ p.flags
    flags_here r k h e = flags_row r k h ∙ cond-true (eqb p.version k) p.flags (flags_at start ps r k) (eq-eqb p.version k e)

    pub flags_other : (r k : ℕ) → p.word ≢ r → flags_at start (p ∷ ps) r k ≡ flags_at start ps r k
    flags_other r k h = cond-false (eqb p.word r) (cond (eqb p.version k) p.flags (flags_at start ps r k)) (flags_at start ps r k) (ne_eqb p.word r h)

    -- what was so of a version stays so
    pub flags_later : (r k : ℕ) → p.version ≡ version ps p.word + 1 → k ≤ version ps r → flags_at start (p ∷ ps) r k ≡ flags_at start ps r k
    flags_later r k numbered low = dite (ℕ_discrete p.word r)
        (λ h. let v : version ps p.word ≡ version ps r = ap (version ps) h in flags_row r k h ∙ cond-false (eqb p.version k) p.flags (flags_at start ps r k) (ne_eqb p.version k (λ e. omega arith)))
        (λ n. flags_other r k n)
