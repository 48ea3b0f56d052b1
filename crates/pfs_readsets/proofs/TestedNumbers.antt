-- What passes a test, of so many numbers from one on.
use Rattle.std.proofs.Common.{◌≡◌, ℕ, zero, suc, ◌+◌, ◌-◌, ◌<◌, ◌≤◌, Bool, true, false, List, [], ◌∷◌, ◌++◌, refl, sym, ◌∙◌, ap, arith, zero-add, add-zero}
use Rattle.std.specs.Prelude.{if◌then◌else◌}
use Rattle.pfs_readsets.specs.ReadSets.{passing}

-- one more number that does not pass, or passes
pub passing_no : (test : ℕ → Bool) (from count : ℕ) → test from ≡ false → passing test from (suc count) ≡ passing test (from + 1) count
unfolding passing
passing_no test from count fails = ap (λ b. if b then from ∷ passing test (from + 1) count else passing test (from + 1) count) fails

pub passing_yes : (test : ℕ → Bool) (from count : ℕ) → test from ≡ true → passing test from (suc count) ≡ from ∷ passing test (from + 1) count
unfolding passing
passing_yes test from count passes = ap (λ b. if b then from ∷ passing test (from + 1) count else passing test (from + 1) count) passes

pub passing_none : (test : ℕ → Bool) (from : ℕ) → passing test from zero ≡ []
unfolding passing
passing_none test from = refl

-- up to an end
count_down : (from end : ℕ) → from < end → end - from ≡ suc (end - (from + 1))
count_down from end below = omega arith

pub skip_to : (test : ℕ → Bool) (from end : ℕ) → from < end → test from ≡ false → passing test from (end - from) ≡ passing test (from + 1) (end - (from + 1))
skip_to test from end below fails = ap (passing test from) (count_down from end below) ∙ passing_no test from (end - (from + 1)) fails

pub take_to : (test : ℕ → Bool) (from end : ℕ) → from < end → test from ≡ true → passing test from (end - from) ≡ from ∷ passing test (from + 1) (end - (from + 1))
take_to test from end below passes = ap (passing test from) (count_down from end below) ∙ passing_yes test from (end - (from + 1)) passes

pub none_to : (test : ℕ → Bool) (from end : ℕ) → end ≤ from → passing test from (end - from) ≡ []
none_to test from end past = let e : end - from ≡ zero = omega arith in ap (passing test from) e ∙ passing_none test from

-- the first numbers and those behind them
pub passing_split : (test : ℕ → Bool) (from few more : ℕ) → passing test from (few + more) ≡ passing test from few ++ passing test (from + few) more
passing_split test from zero more =
    ap (passing test from) (zero-add more) ∙ (ap (λ n. passing test n more) (sym (add-zero from)) ∙ ap (λ l. l ++ passing test (from + zero) more) (sym (passing_none test from)))
passing_split test from (suc few) more = split_on test from few more (test from) refl (passing_split test (from + 1) few more)
  where
    split_on : (test : ℕ → Bool) (from few more : ℕ) (b : Bool) → test from ≡ b
        → passing test (from + 1) (few + more) ≡ passing test (from + 1) few ++ passing test (from + 1 + few) more
        → passing test from (suc few + more) ≡ passing test from (suc few) ++ passing test (from + suc few) more
    split_on test from few more false is back =
        let n : suc few + more ≡ suc (few + more) = omega arith in
        let m : from + 1 + few ≡ from + suc few = omega arith in
        ap (passing test from) n ∙ (passing_no test from (few + more) is ∙ (back
        ∙ (ap (λ k. passing test (from + 1) few ++ passing test k more) m
        ∙ ap (λ l. l ++ passing test (from + suc few) more) (sym (passing_no test from few is)))))
    split_on test from few more true is back =
        let n : suc few + more ≡ suc (few + more) = omega arith in
        let m : from + 1 + few ≡ from + suc few = omega arith in
        ap (passing test from) n ∙ (passing_yes test from (few + more) is ∙ (ap (λ l. from ∷ l) back
        ∙ (ap (λ k. from ∷ (passing test (from + 1) few ++ passing test k more)) m
        ∙ ap (λ l. l ++ passing test (from + suc few) more) (sym (passing_yes test from few is)))))

-- tests that agree on these numbers pass the same
pub passing_same : (f g : ℕ → Bool) (from count : ℕ) → ((k : ℕ) → from ≤ k → k < from + count → f k ≡ g k) → passing f from count ≡ passing g from count
passing_same f g from zero agree = passing_none f from ∙ sym (passing_none g from)
passing_same f g from (suc count) agree =
    same_on f g from count (f from) refl (agree from (omega arith) (omega arith)) (passing_same f g (from + 1) count (λ k low high. agree k (omega arith) (omega arith)))
  where
    same_on : (f g : ℕ → Bool) (from count : ℕ) (b : Bool) → f from ≡ b → f from ≡ g from → passing f (from + 1) count ≡ passing g (from + 1) count
        → passing f from (suc count) ≡ passing g from (suc count)
    same_on f g from count false is same back = passing_no f from count is ∙ (back ∙ sym (passing_no g from count (sym same ∙ is)))
    same_on f g from count true is same back = passing_yes f from count is ∙ (ap (λ l. from ∷ l) back ∙ sym (passing_yes g from count (sym same ∙ is)))

-- where a number comes first: it is one of these, and it alone passes up to itself
pub record ComesFirst (test : ℕ → Bool) (from count first : ℕ) : Type 0 where
  pub low : from ≤ first
  pub high : first < from + count
  pub alone : passing test from (suc first - from) ≡ first ∷ []

pub comes_first : (test : ℕ → Bool) (from count first : ℕ) (rest : List ℕ) → passing test from count ≡ first ∷ rest → ComesFirst test from count first
comes_first test from zero first rest is = let e = passing_none test from in cc
comes_first test from (suc count) first rest is = first_on test from count first rest is (test from) refl (comes_first test (from + 1) count first rest)
  where
    first_on : (test : ℕ → Bool) (from count first : ℕ) (rest : List ℕ) → passing test from (suc count) ≡ first ∷ rest → (b : Bool) → test from ≡ b
        → (passing test (from + 1) count ≡ first ∷ rest → ComesFirst test (from + 1) count first) → ComesFirst test from (suc count) first
    first_on test from count first rest is false fails back =
        let behind = back (sym (passing_no test from count fails) ∙ is) in
        let n : suc first - from ≡ suc (suc first - (from + 1)) = omega (arith, behind.low) in
        record { low = omega (arith, behind.low); high = omega (arith, behind.high); alone = ap (passing test from) n ∙ (passing_no test from (suc first - (from + 1)) fails ∙ behind.alone) }
    first_on test from count first rest is true passes back =
        let e : from ∷ passing test (from + 1) count ≡ first ∷ rest = sym (passing_yes test from count passes) ∙ is in
        let same : from ≡ first = cc in
        let n : suc first - from ≡ suc zero = omega (arith, same) in
        record {
          low = omega (arith, same);
          high = omega (arith, same);
          alone = ap (passing test from) n ∙ (passing_yes test from zero passes ∙ (ap (λ l. from ∷ l) (passing_none test (from + 1)) ∙ ap (λ k. k ∷ []) same));
        }
