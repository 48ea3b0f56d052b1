-- The rules stand in an order, each at a place of its own.
use Rattle.std.proofs.Common.{◌≡◌, refl, ℕ, zero, suc, ◌+◌, ◌<◌, ◌==◌, Bool, true, false, sym, ◌∙◌, ap, subst, arith}
use Rattle.std.proofs.lemmas.Bool.Decides.{nat_tests}
use Rattle.pfs_check_faults.specs.declared.rules.Rule.{Rule}
use Rattle.pfs_check_faults.specs.declared.rules.Rule.TheVariants as rules
use Rattle.pfs_check_faults.specs.Judgements.{FirstRule, KeepBefore, Keeps, LastRule, NextRule, order}
use Rattle.pfs_check_faults.specs.ReportCases.{Case, Findings}

abbrev rule_at : ℕ → Rule
rule_at (suc zero) = rules.Shape
rule_at (suc (suc zero)) = rules.Actions
rule_at (suc (suc (suc zero))) = rules.Chain
rule_at (suc (suc (suc (suc zero)))) = rules.Setup
rule_at (suc (suc (suc (suc (suc zero))))) = rules.Seen
rule_at (suc (suc (suc (suc (suc (suc zero)))))) = rules.Verdict
rule_at (suc (suc (suc (suc (suc (suc (suc zero))))))) = rules.Numbers
rule_at (suc (suc (suc (suc (suc (suc (suc (suc zero)))))))) = rules.Moves
rule_at (suc (suc (suc (suc (suc (suc (suc (suc (suc zero))))))))) = rules.Rings
rule_at (suc (suc (suc (suc (suc (suc (suc (suc (suc (suc zero)))))))))) = rules.Queries
rule_at (suc (suc (suc (suc (suc (suc (suc (suc (suc (suc (suc zero))))))))))) = rules.Tables
rule_at (suc (suc (suc (suc (suc (suc (suc (suc (suc (suc (suc (suc zero)))))))))))) = rules.Lost
rule_at _ = rules.Lost

at_order : (rule : Rule) → rule_at (order rule) ≡ rule
at_order rules.Shape = refl
at_order rules.Actions = refl
at_order rules.Chain = refl
at_order rules.Setup = refl
at_order rules.Seen = refl
at_order rules.Verdict = refl
at_order rules.Numbers = refl
at_order rules.Moves = refl
at_order rules.Rings = refl
at_order rules.Queries = refl
at_order rules.Tables = refl
at_order rules.Lost = refl

same_rule : (one other : Rule) → order one ≡ order other → one ≡ other
same_rule one other e = sym (at_order one) ∙ ap rule_at e ∙ at_order other

same : (x y : ℕ) → (x == y) ≡ true → x ≡ y
same x y e = grind (arith, nat_tests)

lower : (x y z : ℕ) → z ≡ y + 1 → x < z → (x == y) ≡ false → x < y
lower x y z next low e = grind (arith, nat_tests)

kept : (rule : Rule) (case : Case) (found : Findings) → KeepBefore rule case found → Keeps rule case found → (bound : ℕ)
    → bound ≡ order rule + 1 → (other : Rule) → order other < bound → Keeps other case found
kept rule case found before keeps bound next other low = at (order other == order rule) refl where
  at : (b : Bool) → (order other == order rule) ≡ b → Keeps other case found
  at true e = subst (λ z. Keeps z case found) (sym (same_rule other rule (same (order other) (order rule) e))) keeps
  at false e = before other (lower (order other) (order rule) bound next low e)

pub next_rule : NextRule
next_rule rule next case found follows before keeps = kept rule case found before keeps (order next) follows

above : (rule : Rule) → 0 < order rule
above rules.Shape = omega arith
above rules.Actions = omega arith
above rules.Chain = omega arith
above rules.Setup = omega arith
above rules.Seen = omega arith
above rules.Verdict = omega arith
above rules.Numbers = omega arith
above rules.Moves = omega arith
above rules.Rings = omega arith
above rules.Queries = omega arith
above rules.Tables = omega arith
above rules.Lost = omega arith

pub first_rule : FirstRule
first_rule case found other low = absurd (let high = above other in omega (arith, low, high))

below : (rule : Rule) → order rule < 13
below rules.Shape = omega arith
below rules.Actions = omega arith
below rules.Chain = omega arith
below rules.Setup = omega arith
below rules.Seen = omega arith
below rules.Verdict = omega arith
below rules.Numbers = omega arith
below rules.Moves = omega arith
below rules.Rings = omega arith
below rules.Queries = omega arith
below rules.Tables = omega arith
below rules.Lost = omega arith

pub last_rule : LastRule
last_rule case found before keeps rule = kept rules.Lost case found before keeps 13 refl rule (below rule)
