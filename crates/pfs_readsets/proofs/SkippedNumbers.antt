-- Numbers that do not pass are passed over, many at once.
use Rattle.std.proofs.Common.{◌≡◌, ℕ, zero, suc, ◌+◌, ◌-◌, ◌<◌, ◌≤◌, Bool, false, sym, ◌∙◌, ap, arith, add-zero}
use Rattle.pfs_readsets.specs.ReadSets.{passing}
use Rattle.pfs_readsets.proofs.TestedNumbers.{skip_to}

pub skip_many : (test : ℕ → Bool) (from few end : ℕ) → from + few ≤ end → ((number : ℕ) → from ≤ number → number < from + few → test number ≡ false)
    → passing test from (end - from) ≡ passing test (from + few) (end - (from + few))
skip_many test from zero end within none = ap (λ k. passing test k (end - k)) (sym (add-zero from))
skip_many test from (suc few) end within none =
    let n : from + 1 + few ≡ from + suc few = omega arith in
    skip_to test from end (omega (arith, within)) (none from (omega arith) (omega arith))
    ∙ (skip_many test (from + 1) few end (omega (arith, within)) (λ number low high. none number (omega (arith, low)) (omega (arith, high)))
    ∙ ap (λ k. passing test k (end - k)) n)
