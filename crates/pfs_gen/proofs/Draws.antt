-- The draws of a unit.
use Rattle.std.proofs.Common.{ℕ, suc, ◌≡◌, ◌+◌, ◌*◌, ◌/◌, ◌%◌, ◌^◌, ap, ◌∙◌, sym, refl, arith}
use Rattle.std.proofs.Math.Nat.{mod-add-mod, mul_comm}
use Rattle.pfs_gen.specs.Draws.{step, state_after, draw}
use Rattle.pfs_gen.specs.GeneratedScript.{unit_text, unit_at}

-- a step, as a machine that wraps makes it
pub step_wrapped : (x : ℕ) → ((x * 6364136223846793005) % 2 ^ 64 + 1442695040888963407) % 2 ^ 64 ≡ step x
unfolding step
step_wrapped x = mod-add-mod (x * 6364136223846793005) (2 ^ 64) 1442695040888963407 ∙ ap (λ k. (k + 1442695040888963407) % 2 ^ 64) (mul_comm x 6364136223846793005)

-- before the first draw
pub state_first : (number : ℕ) → number ≡ state_after number 0
unfolding state_after
state_first number = refl

-- one draw more
pub state_next : (number n k : ℕ) → k ≡ n + 1 → state_after number k ≡ step (state_after number n)
unfolding state_after
state_next number n k e = let s : k ≡ suc n = omega (arith, e) in ap (state_after number) s

draw_is : (number n k f : ℕ) → k ≡ n + 1 → f ≡ state_after number k → f / 2 ^ 33 ≡ draw number n
unfolding draw
draw_is number n k f e is = ap (λ x. x / 2 ^ 33) (is ∙ ap (state_after number) e)

module _ (number unit s first second third fourth : ℕ) (from : s ≡ state_after number (4 * unit)) (one : first ≡ step s) (two : second ≡ step first) (three : third ≡ step second) (four : fourth ≡ step third) where
  first_is : first ≡ state_after number (4 * unit + 1)
  first_is = one ∙ (ap step from ∙ sym (state_next number (4 * unit) (4 * unit + 1) refl))

  second_is : second ≡ state_after number (4 * unit + 2)
  second_is = two ∙ (ap step first_is ∙ sym (state_next number (4 * unit + 1) (4 * unit + 2) (omega arith)))

  third_is : third ≡ state_after number (4 * unit + 3)
  third_is = three ∙ (ap step second_is ∙ sym (state_next number (4 * unit + 2) (4 * unit + 3) (omega arith)))

  -- the state behind the unit
  pub fourth_is : fourth ≡ state_after number (4 * (unit + 1))
  fourth_is = four ∙ (ap step third_is ∙ sym (state_next number (4 * unit + 3) (4 * (unit + 1)) (omega arith)))

  -- the unit of these draws
  pub unit_is : (a b c d : ℕ) → a ≡ first / 2 ^ 33 → b ≡ second / 2 ^ 33 → c ≡ third / 2 ^ 33 → d ≡ fourth / 2 ^ 33 → unit_text (a % 4) (b % 1000) (c % 3) (d % 1000) ≡ unit_at number unit
  unfolding unit_at
  unit_is a b c d ea eb ec ed =
      ap (λ k. unit_text (k % 4) (b % 1000) (c % 3) (d % 1000)) (ea ∙ draw_is number (4 * unit) (4 * unit + 1) first refl first_is)
      ∙ (ap (λ k. unit_text (draw number (4 * unit) % 4) (k % 1000) (c % 3) (d % 1000)) (eb ∙ draw_is number (4 * unit + 1) (4 * unit + 2) second (omega arith) second_is)
      ∙ (ap (λ k. unit_text (draw number (4 * unit) % 4) (draw number (4 * unit + 1) % 1000) (k % 3) (d % 1000)) (ec ∙ draw_is number (4 * unit + 2) (4 * unit + 3) third (omega arith) third_is)
      ∙ ap (λ k. unit_text (draw number (4 * unit) % 4) (draw number (4 * unit + 1) % 1000) (draw number (4 * unit + 2) % 3) (k % 1000)) (ed ∙ draw_is number (4 * unit + 3) (4 * (unit + 1)) fourth (omega arith) fourth_is)))
