-- The greatest version of a row up to a number, by what stands among the givens.
use Rattle.std.proofs.Common.{◌≡◌, refl, ℕ, zero, suc, ◌<◌, ◌≤◌, ◌==◌, max, Bool, true, false, ◌&&◌, nat_le, List, [], ◌∷◌, ap, subst, arith, Option, Some, None, inl, inr}
use Rattle.std.specs.Prelude.{if◌then◌else◌, ◌⊎◌}
use Rattle.std.proofs.lemmas.Bool.{eqb-false, eqb-true, leb-true}
use Rattle.std.proofs.lemmas.Bool.Decides.{nat_tests}
use Rattle.std.proofs.lemmas.Option.{same_Some}
use Rattle.pfs_check_tops.specs.declared.tops.Given.{Given}
use Rattle.pfs_check_tops.specs.Greatest.{greater_of, greatest_up_to}
use Rattle.pfs_check_tops.specs.SortedTops.{IsOneOf}

-- one of the row up to the number has this version, and none has more
pub record IsGreatest (givens : List Given) (row at version : ℕ) : Type 0 where
  pub most : (one : Given) → IsOneOf one givens → one.row ≡ row → one.at ≤ at → one.version ≤ version
  pub one : Given
  pub there : IsOneOf one givens
  pub row_is : one.row ≡ row
  pub at_is : one.at ≤ at
  pub version_is : one.version ≡ version

abbrev pub IsTop : List Given → ℕ → ℕ → Option ℕ → Type 0
IsTop givens row at None = (one : Given) → IsOneOf one givens → one.row ≡ row → at < one.at
IsTop givens row at (Some version) = IsGreatest givens row at version

one_top : (givens : List Given) (row at : ℕ) (o p : Option ℕ) → IsTop givens row at o → IsTop givens row at p → o ≡ p
one_top givens row at None None t u = refl
one_top givens row at None (Some w) t u = absurd (omega (arith, t u.one u.there u.row_is, u.at_is))
one_top givens row at (Some v) None t u = absurd (omega (arith, u t.one t.there t.row_is, t.at_is))
one_top givens row at (Some v) (Some w) t u =
    let up : u.one.version ≤ v = t.most u.one u.there u.row_is u.at_is in
    let down : t.one.version ≤ w = u.most t.one t.there t.row_is t.at_is in
    ap Some (same v w (omega (arith, down, t.version_is)) (omega (arith, up, u.version_is))) where
      same : (m n : ℕ) → m ≤ n → n ≤ m → m ≡ n
      same m n l k = omega (arith, l, k)

one_before : (g one : Given) (gs : List Given) → IsOneOf one (g ∷ gs) → (g ≡ one) ⊎ IsOneOf one gs
one_before g one gs (zero, e) = inl (same_Some g one e)
one_before g one gs (suc k, e) = inr (k, e)

one_behind : (g one : Given) (gs : List Given) → IsOneOf one gs → IsOneOf one (g ∷ gs)
one_behind g one gs i = (suc i.0, i.1)

-- one that is up to there
here_is : (g : Given) (gs : List Given) (row at : ℕ) (o : Option ℕ) → g.row ≡ row → g.at ≤ at → IsTop gs row at o
    → IsTop (g ∷ gs) row at (greater_of g.version o)
here_is g gs row at None e l t = record {
  most = λ one i r m. on one r m (one_before g one gs i);
  one = g;
  there = (0, refl);
  row_is = e;
  at_is = l;
  version_is = refl;
} where
  on : (one : Given) → one.row ≡ row → one.at ≤ at → (g ≡ one) ⊎ IsOneOf one gs → one.version ≤ g.version
  on one r m (inl q) = let version : g.version ≡ one.version = ap (λ (z : Given). z.version) q in omega (arith, version)
  on one r m (inr i) = absurd (omega (arith, t one i r, m))
here_is g gs row at (Some v) e l t = at_most (nat_le v g.version) refl where
  most : (one : Given) → IsOneOf one (g ∷ gs) → one.row ≡ row → one.at ≤ at → one.version ≤ max g.version v
  most one i r m = on (one_before g one gs i) where
    on : (g ≡ one) ⊎ IsOneOf one gs → one.version ≤ max g.version v
    on (inl q) = let version : g.version ≡ one.version = ap (λ (z : Given). z.version) q in omega (arith, version)
    on (inr j) = let low : one.version ≤ v = t.most one j r m in omega (arith, low)

  at_most : (b : Bool) → nat_le v g.version ≡ b → IsGreatest (g ∷ gs) row at (max g.version v)
  at_most true q =
      let low : v ≤ g.version = leb-true v g.version q in
      record { most = most; one = g; there = (0, refl); row_is = e; at_is = l; version_is = omega (arith, low) }
  at_most false q =
      let low : g.version ≤ v = grind (arith, nat_tests) in
      record {
        most = most;
        one = t.one;
        there = one_behind g t.one gs t.there;
        row_is = t.row_is;
        at_is = t.at_is;
        version_is = omega (arith, low, t.version_is);
      }

-- and one that isn't
else_is : (g : Given) (gs : List Given) (row at : ℕ) (o : Option ℕ) → (g.row ≡ row → at < g.at) → IsTop gs row at o → IsTop (g ∷ gs) row at o
else_is g gs row at None h t = λ one i r. on one r (one_before g one gs i) where
  on : (one : Given) → one.row ≡ row → (g ≡ one) ⊎ IsOneOf one gs → at < one.at
  on one r (inl q) = subst (λ (z : Given). z.row ≡ row → at < z.at) q h r
  on one r (inr i) = t one i r
else_is g gs row at (Some v) h t = record {
  most = λ one i r m. on one r m (one_before g one gs i);
  one = t.one;
  there = one_behind g t.one gs t.there;
  row_is = t.row_is;
  at_is = t.at_is;
  version_is = t.version_is;
} where
  on : (one : Given) → one.row ≡ row → one.at ≤ at → (g ≡ one) ⊎ IsOneOf one gs → one.version ≤ v
  on one r m (inl q) = let behind : at < one.at = subst (λ (z : Given). z.row ≡ row → at < z.at) q h r in absurd (omega (arith, behind, m))
  on one r m (inr i) = t.most one i r m

top_there : (givens : List Given) (row at : ℕ) → IsTop givens row at (greatest_up_to row at givens)
top_there [] row at = λ one i e. none one i where
  none : (one : Given) → IsOneOf one [] → at < one.at
  none one (k, e) = absurd (cc)
top_there (g ∷ gs) row at = on (g.row == row) (nat_le g.at at) refl refl (top_there gs row at) where
  on : (a b : Bool) → (g.row == row) ≡ a → nat_le g.at at ≡ b → IsTop gs row at (greatest_up_to row at gs)
      → IsTop (g ∷ gs) row at (if a && b then greater_of g.version (greatest_up_to row at gs) else greatest_up_to row at gs)
  on true true e f t = here_is g gs row at (greatest_up_to row at gs) (eqb-true g.row row e) (leb-true g.at at f) t
  on true false e f t = else_is g gs row at (greatest_up_to row at gs) (λ q. grind (arith, nat_tests)) t
  on false b e f t = else_is g gs row at (greatest_up_to row at gs) (λ q. absurd (eqb-false g.row row e q)) t

-- the top is the greatest version
pub top_is : (givens : List Given) (row at : ℕ) (o : Option ℕ) → IsTop givens row at o → o ≡ greatest_up_to row at givens
top_is givens row at o t = one_top givens row at o (greatest_up_to row at givens) t (top_there givens row at)
