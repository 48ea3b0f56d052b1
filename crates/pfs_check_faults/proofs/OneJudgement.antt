-- A case is judged in one way.
use Rattle.std.proofs.Common.{◌≡◌, refl, ℕ, ◌<◌, ◌==◌, Bool, true, false, List, sym, ◌∙◌, ap, subst, arith}
use Rattle.std.specs.Prelude.{if◌then◌else◌, nat_lt}
use Rattle.std.proofs.lemmas.Bool.Decides.{nat_tests}
use Rattle.pfs_board.specs.declared.view.Label.{Label}
use Rattle.pfs_model.specs.EntryPlaces.{Block}
use Rattle.pfs_check_faults.specs.declared.rules.Rule.{Rule}
use Rattle.pfs_check_faults.specs.declared.rules.Rule.TheVariants as rules
use Rattle.pfs_check_faults.specs.declared.rules.Judgement.TheVariants.{Good, Wrong}
use Rattle.pfs_check_faults.proofs.BlockCuts.{one_cut}
use Rattle.pfs_check_faults.proofs.OneLabels.{one_labels}
use Rattle.pfs_check_faults.specs.Judgements.{Excludes, Fails, IsWrong, KeepBefore, Keeps, OneJudgement, order}
use Rattle.pfs_check_faults.specs.ReportCases.{Case, Findings, entries_of}

-- other findings with these blocks and labels
abbrev with_found : Findings → List (List Block) → List Label → Findings
with_found found blocks labels = record { blocks = blocks; labels = labels; counted = found.counted; content = found.content }

with_both : (rule : Rule) (case : Case) (one other : Findings) (line : ℕ) → one.blocks ≡ other.blocks → one.labels ≡ other.labels
    → Fails rule case (with_found other one.blocks one.labels) line → Fails rule case other line
with_both rule case one other line b l f =
    subst (λ z. Fails rule case (with_found other z other.labels) line) b
    (subst (λ z. Fails rule case (with_found other one.blocks z) line) l f)

same_blocks : (case : Case) (one other : Findings) → Keeps rules.Shape case one → Keeps rules.Shape case other → one.blocks ≡ other.blocks
same_blocks case one other a b = one_cut case.phases case.report one.blocks other.blocks a b

same_labels : (case : Case) (one other : Findings) → one.blocks ≡ other.blocks → Keeps rules.Actions case one → Keeps rules.Actions case other
    → one.labels ≡ other.labels
same_labels case one other e a b =
    one_labels one.labels other.labels (entries_of other) b.numbers
    (subst (λ z. Keeps rules.Actions case (with_found one z one.labels)) e a).labelled b.labelled

-- a fault is one by whatever findings that keep the rules before
carried : (rule : Rule) (case : Case) (one other : Findings) (line : ℕ) → KeepBefore rule case one → KeepBefore rule case other
    → Fails rule case one line → Fails rule case other line
carried rules.Shape case one other line a b f = f
carried rules.Actions case one other line a b f =
    subst (λ z. Fails rules.Actions case (with_found other z other.labels) line)
    (same_blocks case one other (a rules.Shape (omega arith)) (b rules.Shape (omega arith))) f
carried rules.Chain case one other line a b f =
    let e : one.blocks ≡ other.blocks = same_blocks case one other (a rules.Shape (omega arith)) (b rules.Shape (omega arith)) in
    with_both rules.Chain case one other line e (same_labels case one other e (a rules.Actions (omega arith)) (b rules.Actions (omega arith))) f
carried rules.Setup case one other line a b f =
    let e : one.blocks ≡ other.blocks = same_blocks case one other (a rules.Shape (omega arith)) (b rules.Shape (omega arith)) in
    with_both rules.Setup case one other line e (same_labels case one other e (a rules.Actions (omega arith)) (b rules.Actions (omega arith))) f
carried rules.Seen case one other line a b f =
    let e : one.blocks ≡ other.blocks = same_blocks case one other (a rules.Shape (omega arith)) (b rules.Shape (omega arith)) in
    with_both rules.Seen case one other line e (same_labels case one other e (a rules.Actions (omega arith)) (b rules.Actions (omega arith))) f
carried rules.Verdict case one other line a b f =
    let e : one.blocks ≡ other.blocks = same_blocks case one other (a rules.Shape (omega arith)) (b rules.Shape (omega arith)) in
    with_both rules.Verdict case one other line e (same_labels case one other e (a rules.Actions (omega arith)) (b rules.Actions (omega arith))) f
carried rules.Numbers case one other line a b f =
    let e : one.blocks ≡ other.blocks = same_blocks case one other (a rules.Shape (omega arith)) (b rules.Shape (omega arith)) in
    with_both rules.Numbers case one other line e (same_labels case one other e (a rules.Actions (omega arith)) (b rules.Actions (omega arith))) f
carried rules.Moves case one other line a b f =
    let e : one.blocks ≡ other.blocks = same_blocks case one other (a rules.Shape (omega arith)) (b rules.Shape (omega arith)) in
    with_both rules.Moves case one other line e (same_labels case one other e (a rules.Actions (omega arith)) (b rules.Actions (omega arith))) f
carried rules.Rings case one other line a b f =
    let e : one.blocks ≡ other.blocks = same_blocks case one other (a rules.Shape (omega arith)) (b rules.Shape (omega arith)) in
    with_both rules.Rings case one other line e (same_labels case one other e (a rules.Actions (omega arith)) (b rules.Actions (omega arith))) f
carried rules.Queries case one other line a b f =
    let e : one.blocks ≡ other.blocks = same_blocks case one other (a rules.Shape (omega arith)) (b rules.Shape (omega arith)) in
    with_both rules.Queries case one other line e (same_labels case one other e (a rules.Actions (omega arith)) (b rules.Actions (omega arith))) f
carried rules.Tables case one other line a b f =
    let e : one.blocks ≡ other.blocks = same_blocks case one other (a rules.Shape (omega arith)) (b rules.Shape (omega arith)) in
    with_both rules.Tables case one other line e (same_labels case one other e (a rules.Actions (omega arith)) (b rules.Actions (omega arith))) f
carried rules.Lost case one other line a b f =
    let e : one.blocks ≡ other.blocks = same_blocks case one other (a rules.Shape (omega arith)) (b rules.Shape (omega arith)) in
    with_both rules.Lost case one other line e (same_labels case one other e (a rules.Actions (omega arith)) (b rules.Actions (omega arith))) f

-- the rule of a place in the order
rule_at : ℕ → Rule
rule_at n =
    if n == 1 then rules.Shape else
    if n == 2 then rules.Actions else
    if n == 3 then rules.Chain else
    if n == 4 then rules.Setup else
    if n == 5 then rules.Seen else
    if n == 6 then rules.Verdict else
    if n == 7 then rules.Numbers else
    if n == 8 then rules.Moves else
    if n == 9 then rules.Rings else
    if n == 10 then rules.Queries else
    if n == 11 then rules.Tables else rules.Lost

rule_is : (rule : Rule) → rule_at (order rule) ≡ rule
unfolding rule_at
rule_is rules.Shape = refl
rule_is rules.Actions = refl
rule_is rules.Chain = refl
rule_is rules.Setup = refl
rule_is rules.Seen = refl
rule_is rules.Verdict = refl
rule_is rules.Numbers = refl
rule_is rules.Moves = refl
rule_is rules.Rings = refl
rule_is rules.Queries = refl
rule_is rules.Tables = refl
rule_is rules.Lost = refl

same_rule : (one other : Rule) → order one ≡ order other → one ≡ other
same_rule one other e = sym (rule_is one) ∙ ap rule_at e ∙ rule_is other

-- less, the same or more
data Compared (a b : ℕ) : Type 0 where
  Lower : a < b → Compared a b
  Same : a ≡ b → Compared a b
  Higher : b < a → Compared a b

compared : (a b : ℕ) → Compared a b
compared a b = at (nat_lt a b) (nat_lt b a) refl refl where
  at : (x y : Bool) → nat_lt a b ≡ x → nat_lt b a ≡ y → Compared a b
  at true y e f = Lower (grind (arith, nat_tests))
  at false true e f = Higher (grind (arith, nat_tests))
  at false false e f = Same (grind (arith, nat_tests))

-- where a rule is kept by findings, it isn't the first that fails by others
never_both : ((rule : Rule) → Excludes rule) → (case : Case) (rule : Rule) (line : ℕ) (keeps : Findings) → IsWrong case rule line
    → KeepBefore rule case keeps → Keeps rule case keeps → ⊥
never_both excludes case rule line keeps wrong before kept =
    excludes rule case keeps line before kept (carried rule case wrong.found keeps line wrong.keeps before wrong.fault.fails)

lower_rule : ((rule : Rule) → Excludes rule) → (case : Case) (one other : Rule) (a b : ℕ) → IsWrong case one a → IsWrong case other b
    → order one < order other → ⊥
lower_rule excludes case one other a b x y h =
    never_both excludes case one a y.found x (λ rule l. y.keeps rule (omega (arith, l, h))) (y.keeps one h)

same_line : (case : Case) (rule : Rule) (a b : ℕ) → IsWrong case rule a → IsWrong case rule b → a < b → ⊥
same_line case rule a b x y h =
    y.fault.first a h (carried rule case x.found y.found a x.keeps y.keeps x.fault.fails)

lines_same : (case : Case) (rule : Rule) (a b : ℕ) → IsWrong case rule a → IsWrong case rule b → a ≡ b
lines_same case rule a b x y = at (compared a b) where
  at : Compared a b → a ≡ b
  at (Lower h) = absurd (same_line case rule a b x y h)
  at (Same e) = e
  at (Higher h) = absurd (same_line case rule b a y x h)

wrongs_same : ((rule : Rule) → Excludes rule) → (case : Case) (one other : Rule) (a b : ℕ) → IsWrong case one a → IsWrong case other b
    → Wrong one a ≡ Wrong other b
wrongs_same excludes case one other a b x y = at (compared (order one) (order other)) where
  at : Compared (order one) (order other) → Wrong one a ≡ Wrong other b
  at (Lower h) = absurd (lower_rule excludes case one other a b x y h)
  at (Same e) =
      let r : one ≡ other = same_rule one other e in
      ap (λ z. Wrong z a) r ∙ ap (Wrong other) (lines_same case other a b (subst (λ z. IsWrong case z a) r x) y)
  at (Higher h) = absurd (lower_rule excludes case other one b a y x h)

pub one_judgement : ((rule : Rule) → Excludes rule) → OneJudgement
one_judgement excludes case Good Good x y = refl
one_judgement excludes case Good (Wrong rule line) x y =
    absurd (never_both excludes case rule line x.found y (λ other l. x.keeps other) (x.keeps rule))
one_judgement excludes case (Wrong rule line) Good x y =
    absurd (never_both excludes case rule line y.found x (λ other l. y.keeps other) (y.keeps rule))
one_judgement excludes case (Wrong one a) (Wrong other b) x y = wrongs_same excludes case one other a b x y
