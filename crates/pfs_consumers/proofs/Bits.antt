-- The bits of a word after one flag was set.
use Rattle.std.proofs.Common.{◌≡◌, ◌≢◌, ℕ, zero, suc, ◌-◌, ◌^◌, ◌<◌, Bool, true, false, Some, eqb, refl, ap, subst, arith, lit<}
use Rattle.std.specs.Prelude.{slice_get, bit_and, bit_or}
use Rattle.std.specs.Int.{bit_at, w16}
use Rattle.std.proofs.lemmas.Nat.Bits.{bit_at_or, bit_at_and, bit_at-pow_same, bit_at-pow_other, bit_at_not, bit_at-lt, same_from_bits_below}
use Rattle.std.proofs.lemmas.Bool.Decides.{nat_tests}
use Rattle.pfs_consumers.specs.declared.TheConstants.Consumer.{ALL}
use Rattle.pfs_consumers.specs.declared.Consumer.{Consumer}
use Rattle.pfs_consumers.specs.declared.Consumer.TheVariants.{StagesCurrent, StagesHistory, StagesHistoryLong, StatementsCurrent, StatementsHistory, StatementsHistoryLong, TransactionsCurrent, TransactionsHistory, TransactionsHistoryLong, WaitsCurrent, WaitsHistory, WaitsHistoryLong, GlobalInstrumentation, ThreadInstrumentation, StatementsDigest}
use Rattle.pfs_consumers.specs.Tree.{bit_of, is_on, with_flag}

pub bit_of-lt : (c : Consumer) → bit_of c < 15
bit_of-lt StagesCurrent = lit< tt
bit_of-lt _ = lit< tt

bit_of-pow : (c : Consumer) → 2 ^ bit_of c < 65536
bit_of-pow StagesCurrent = lit< tt
bit_of-pow _ = lit< tt

at_bit : (c : Consumer) → slice_get ALL (bit_of c) ≡ Some c
at_bit StagesCurrent = refl
at_bit _ = refl

bit_of-differ : (c d : Consumer) → d ≢ c → bit_of d ≢ bit_of c
bit_of-differ c d h e =
    let same : slice_get ALL (bit_of d) ≡ slice_get ALL (bit_of c) = ap (slice_get ALL) e in
    h (cc (at_bit c, at_bit d))

-- each bit below 15 is a consumer's
of_bit : (i : ℕ) → i < 15 → (c : Consumer) × (bit_of c ≡ i)
of_bit zero h = (StagesCurrent, refl)
of_bit (suc zero) h = (StagesHistory, refl)
of_bit (suc (suc zero)) h = (StagesHistoryLong, refl)
of_bit (suc (suc (suc zero))) h = (StatementsCurrent, refl)
of_bit (suc (suc (suc (suc zero)))) h = (StatementsHistory, refl)
of_bit (suc (suc (suc (suc (suc zero))))) h = (StatementsHistoryLong, refl)
of_bit (suc (suc (suc (suc (suc (suc zero)))))) h = (TransactionsCurrent, refl)
of_bit (suc (suc (suc (suc (suc (suc (suc zero))))))) h = (TransactionsHistory, refl)
of_bit (suc (suc (suc (suc (suc (suc (suc (suc zero)))))))) h = (TransactionsHistoryLong, refl)
of_bit (suc (suc (suc (suc (suc (suc (suc (suc (suc zero))))))))) h = (WaitsCurrent, refl)
of_bit (suc (suc (suc (suc (suc (suc (suc (suc (suc (suc zero)))))))))) h = (WaitsHistory, refl)
of_bit (suc (suc (suc (suc (suc (suc (suc (suc (suc (suc (suc zero))))))))))) h = (WaitsHistoryLong, refl)
of_bit (suc (suc (suc (suc (suc (suc (suc (suc (suc (suc (suc (suc zero)))))))))))) h = (GlobalInstrumentation, refl)
of_bit (suc (suc (suc (suc (suc (suc (suc (suc (suc (suc (suc (suc (suc zero))))))))))))) h = (ThreadInstrumentation, refl)
of_bit (suc (suc (suc (suc (suc (suc (suc (suc (suc (suc (suc (suc (suc (suc zero)))))))))))))) h = (StatementsDigest, refl)
of_bit (suc (suc (suc (suc (suc (suc (suc (suc (suc (suc (suc (suc (suc (suc (suc i))))))))))))))) h = absurd (omega arith)

bit_or_same : (word k : ℕ) → bit_at (bit_or word (2 ^ k)) k ≡ 1
bit_or_same word k = rw (bit_at_or, bit_at-pow_same) (omega (arith, bit_at-lt word k))

bit_or_other : (word k i : ℕ) → i ≢ k → bit_at (bit_or word (2 ^ k)) i ≡ bit_at word i
bit_or_other word k i h = rw (bit_at_or, bit_at-pow_other k i h) (omega arith)

bit_clear_same : (word k : ℕ) → k < 16 → 2 ^ k < 65536 → bit_at (bit_and word (65535 - 2 ^ k)) k ≡ 0
bit_clear_same word k lt low = rw (bit_at_and, bit_at_not w16 (2 ^ k) k low lt, bit_at-pow_same) (omega arith)

bit_clear_other : (word k i : ℕ) → i < 16 → 2 ^ k < 65536 → i ≢ k → bit_at (bit_and word (65535 - 2 ^ k)) i ≡ bit_at word i
bit_clear_other word k i lt low h = rw (bit_at_and, bit_at_not w16 (2 ^ k) i low lt, bit_at-pow_other k i h) (omega (arith, bit_at-lt word i))

-- the flag that was set is as given
pub is_on-with_flag_same : (word : ℕ) (c : Consumer) (on : Bool) → is_on (with_flag word c on) c ≡ on
is_on-with_flag_same word c true = rw (bit_or_same word (bit_of c)) refl
is_on-with_flag_same word c false = rw (bit_clear_same word (bit_of c) (omega (arith, bit_of-lt c)) (bit_of-pow c)) refl

-- each other bit stays
pub bit_at-with_flag_other : (word i : ℕ) (c : Consumer) (on : Bool) → i < 16 → i ≢ bit_of c → bit_at (with_flag word c on) i ≡ bit_at word i
bit_at-with_flag_other word i c true lt h = bit_or_other word (bit_of c) i h
bit_at-with_flag_other word i c false lt h = bit_clear_other word (bit_of c) i lt (bit_of-pow c) h

-- each other flag stays
pub is_on-with_flag_other : (word : ℕ) (c d : Consumer) (on : Bool) → d ≢ c → is_on (with_flag word c on) d ≡ is_on word d
is_on-with_flag_other word c d on h = ap (λ b. eqb b 1) (bit_at-with_flag_other word (bit_of d) c on (omega (arith, bit_of-lt d)) (bit_of-differ c d h))

-- bit 15 stays
pub bit_at-with_flag_last : (word : ℕ) (c : Consumer) (on : Bool) → bit_at (with_flag word c on) 15 ≡ bit_at word 15
bit_at-with_flag_last word c on = bit_at-with_flag_other word 15 c on (lit< tt) (let lt : bit_of c < 15 = bit_of-lt c in omega arith)

same_bit : (a b : ℕ) → a < 2 → b < 2 → eqb a 1 ≡ eqb b 1 → a ≡ b
same_bit a b p q e = grind (arith, nat_tests)

-- two words of fifteen bits with the same flags are one
pub same_word : (a b : ℕ) → a < 2 ^ 15 → b < 2 ^ 15 → ((c : Consumer) → is_on a c ≡ is_on b c) → a ≡ b
same_word a b p q same =
    same_from_bits_below 15 a b p q (λ i lt.
    let found = of_bit i lt in
    subst (λ (n : ℕ). bit_at a n ≡ bit_at b n) found.1
    (same_bit (bit_at a (bit_of found.0)) (bit_at b (bit_of found.0)) (bit_at-lt a (bit_of found.0)) (bit_at-lt b (bit_of found.0)) (same found.0)))

pub ruleset after_set = (is_on-with_flag_same, is_on-with_flag_other, bit_at-with_flag_last)
