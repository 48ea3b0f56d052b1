use Rattle.std.proofs.Common.{◌≡◌, ◌∷◌, ◌∙◌, List, ap, sym, length, drop, arith}
use Rattle.pfs_script.specs.declared.blocks.BlockLine.{BlockLine}
use Rattle.pfs_script.specs.Marks.{written_out}
use Rattle.pfs_play.specs.Errands.{cost_on}
use Rattle.pfs_play.specs.Repeats.{repeated}
use Rattle.pfs_play.proofs.LineCosts.{begin_written, behind_first}
use Rattle.pfs_play.proofs.WrittenRepeats.{written_plain}
use Rattle.pfs_play.proofs.costs.next_cost.Goals as goal

pub repeat_cost-requires : goal.repeat_cost-requires
repeat_cost-requires c =
    let w : written_out c.args.lines.now ≡ repeated c.in-Some-times_of.times c.in-Some.others.now =
    ap written_out c.in-Some.ensures.cases.0 ∙ begin_written c.in-Some.first.now c.in-Some.others.now c.in-Some-times_of.times (sym c.times_of.ensures ∙ c.in-Some-times_of.is) in
    let n = ap length w in
    record { short = omega (arith, n, c.requires.short) }

pub returns-in-Ok-clause-cost : goal.returns-in-Ok-clause-cost
returns-in-Ok-clause-cost c =
    let w : written_out c.args.lines.now ≡ repeated c.in-Some-times_of.times c.in-Some.others.now =
    ap written_out c.in-Some.ensures.cases.0 ∙ begin_written c.in-Some.first.now c.in-Some.others.now c.in-Some-times_of.times (sym c.times_of.ensures ∙ c.in-Some-times_of.is) in
    let behind = ap (λ (l : List BlockLine). cost_on (written_out l)) (behind_first c.args.lines.now c.in-Some.first.now c.in-Some.others.now c.in-Ok.cost.lines c.in-Some.ensures.cases.0) in
    let n = ap cost_on w in
    omega (arith, n, behind, c.in-Ok.ensures.cost)

pub returns-in-Ok-clause-shorter : goal.returns-in-Ok-clause-shorter
returns-in-Ok-clause-shorter c =
    let w : written_out c.args.lines.now ≡ repeated c.in-Some-times_of.times c.in-Some.others.now =
    ap written_out c.in-Some.ensures.cases.0 ∙ begin_written c.in-Some.first.now c.in-Some.others.now c.in-Some-times_of.times (sym c.times_of.ensures ∙ c.in-Some-times_of.is) in
    let behind = ap (λ (l : List BlockLine). length (written_out l)) (behind_first c.args.lines.now c.in-Some.first.now c.in-Some.others.now c.in-Ok.cost.lines c.in-Some.ensures.cases.0) in
    let n = ap length w in
    omega (arith, n, behind, c.in-Ok.ensures.shorter)

pub returns-in-Ok-line_cost-clause-cost : goal.returns-in-Ok-line_cost-clause-cost
returns-in-Ok-line_cost-clause-cost c =
    let w : written_out c.args.lines.now ≡ c.in-Some.first.now ∷ written_out c.in-Some.others.now =
    ap written_out c.in-Some.ensures.cases.0 ∙ written_plain c.in-Some.first.now c.in-Some.others.now (sym c.times_of.ensures ∙ c.in-None.is) in
    let behind = ap (λ (l : List BlockLine). cost_on (written_out (drop 1 l))) c.in-Some.ensures.cases.0 in
    let n = ap cost_on w in
    omega (arith, n, behind, c.in-Ok-line_cost.ensures.cost)

pub returns-in-Ok-line_cost-clause-shorter : goal.returns-in-Ok-line_cost-clause-shorter
returns-in-Ok-line_cost-clause-shorter c =
    let w : written_out c.args.lines.now ≡ c.in-Some.first.now ∷ written_out c.in-Some.others.now =
    ap written_out c.in-Some.ensures.cases.0 ∙ written_plain c.in-Some.first.now c.in-Some.others.now (sym c.times_of.ensures ∙ c.in-None.is) in
    let behind = ap (λ (l : List BlockLine). length (written_out (drop 1 l))) c.in-Some.ensures.cases.0 in
    let n = ap length w in
    omega (arith, n, behind)
