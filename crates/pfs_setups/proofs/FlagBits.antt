-- The bits of a word behind a change of two flags.
use Rattle.std.proofs.Common.{◌≡◌, ◌≢◌, ℕ, ◌-◌, ◌^◌, ◌<◌, Bool, true, false, Option, None, Some, eqb, refl, ap, ◌∙◌, arith, lit<}
use Rattle.std.specs.Prelude.{bit_and, bit_or, unwrap_or}
use Rattle.std.specs.Int.{bit_at, w16}
use Rattle.std.proofs.lemmas.Nat.Bits.{bit_at_or, bit_at_and, bit_at-pow_same, bit_at-pow_other, bit_at_not, bit_at-lt}
use Rattle.pfs_matching.specs.declared.faults.FlagChange.{FlagChange}
use Rattle.pfs_setups.specs.ChangeLaws.{SetsFlags}
use Rattle.pfs_setups.specs.Updates.{with_bit}

or_same : (word k : ℕ) → bit_at (bit_or word (2 ^ k)) k ≡ 1
or_same word k = rw (bit_at_or, bit_at-pow_same) (omega (arith, bit_at-lt word k))

or_other : (word k i : ℕ) → i ≢ k → bit_at (bit_or word (2 ^ k)) i ≡ bit_at word i
or_other word k i h = rw (bit_at_or, bit_at-pow_other k i h) (omega arith)

clear_same : (word k : ℕ) → k < 16 → 2 ^ k < 65536 → bit_at (bit_and word (65535 - 2 ^ k)) k ≡ 0
clear_same word k lt low = rw (bit_at_and, bit_at_not w16 (2 ^ k) k low lt, bit_at-pow_same) (omega arith)

clear_other : (word k i : ℕ) → i < 16 → 2 ^ k < 65536 → i ≢ k → bit_at (bit_and word (65535 - 2 ^ k)) i ≡ bit_at word i
clear_other word k i lt low h = rw (bit_at_and, bit_at_not w16 (2 ^ k) i low lt, bit_at-pow_other k i h) (omega (arith, bit_at-lt word i))

bit_same : (k word : ℕ) (on : Option Bool) → k < 16 → 2 ^ k < 65536 → eqb (bit_at (with_bit k word on) k) 1 ≡ unwrap_or on (eqb (bit_at word k) 1)
bit_same k word None lt low = refl
bit_same k word (Some true) lt low = ap (λ b. eqb b 1) (or_same word k)
bit_same k word (Some false) lt low = ap (λ b. eqb b 1) (clear_same word k lt low)

bit_other : (k word i : ℕ) (on : Option Bool) → i < 16 → 2 ^ k < 65536 → i ≢ k → bit_at (with_bit k word on) i ≡ bit_at word i
bit_other k word i None lt low h = refl
bit_other k word i (Some true) lt low h = or_other word k i h
bit_other k word i (Some false) lt low h = clear_other word k i lt low h

pub sets_flags : (change : FlagChange) (flags : ℕ) → SetsFlags change flags
sets_flags change flags = record {
  first = ap (λ b. eqb b 1) (bit_other 1 (with_bit 0 flags change.first) 0 change.second (lit< tt) (lit< tt) (omega arith)) ∙ bit_same 0 flags change.first (lit< tt) (lit< tt);
  second = bit_same 1 (with_bit 0 flags change.first) change.second (lit< tt) (lit< tt) ∙ ap (λ b. unwrap_or change.second (eqb b 1)) (bit_other 0 flags 1 change.first (lit< tt) (lit< tt) (omega arith));
  others = λ bit from below.
      bit_other 1 (with_bit 0 flags change.first) bit change.second below (lit< tt) (let differs : bit ≢ 1 = omega arith in differs)
      ∙ bit_other 0 flags bit change.first below (lit< tt) (let differs : bit ≢ 0 = omega arith in differs);
}
