use Rattle.std.proofs.Common.{◌≡◌, ◌+◌, ◌-◌, ◌∙◌, ℕ, List, ap, length, take, drop, arith}
use Rattle.std.proofs.lemmas.List.{length-drop}
use Rattle.pfs_script.specs.declared.blocks.BlockLine.{BlockLine}
use Rattle.pfs_script.specs.Marks.{written_out}
use Rattle.pfs_play.specs.Errands.{cost_on}
use Rattle.pfs_play.proofs.LineCosts.{costs_few, once_each}
use Rattle.pfs_play.proofs.WrittenRepeats.{to_the_end, drop_both, at_the_end}
use Rattle.pfs_play.proofs.costs.written_cost.Goals as goal

pub overflow_add-entries : goal.overflow_add-entries
overflow_add-entries c =
    let lines : List BlockLine = c.args.lines.now in
    let here = ap (λ (l : List BlockLine). cost_on (written_out l)) (to_the_end c.loop-at.at lines) in
    omega (arith, here, c.loop-at.invariant.cost, c.in-Ok.ensures.cost, costs_few (written_out lines), once_each (written_out lines), c.requires.short)

pub loop-at-preserved : goal.loop-at-preserved
loop-at-preserved c =
    let lines : List BlockLine = c.args.lines.now in
    let at : ℕ = c.loop-at.at in
    let n : ℕ = c.in-Ok.next.lines in
    let before = c.loop-at.invariant in
    let now = c.in-Ok.ensures in
    let here : take (length lines - at) (drop at lines) ≡ drop at lines = to_the_end at lines in
    let there : drop n (take (length lines - at) (drop at lines)) ≡ drop (at + n) lines = ap (λ (l : List BlockLine). drop n l) here ∙ drop_both at n lines in
    let cost_here = ap (λ (l : List BlockLine). cost_on (written_out l)) here in
    let cost_there = ap (λ (l : List BlockLine). cost_on (written_out l)) there in
    let size_here = ap (λ (l : List BlockLine). length (written_out l)) here in
    let size_there = ap (λ (l : List BlockLine). length (written_out l)) there in
    let shorter = ap (λ (l : List BlockLine). length l) here in
    let left_over : length (drop at lines) ≡ length lines - at = length-drop at lines in
    let few = now.count.1 in
    record {
      count = omega (arith, before.count, shorter, left_over, few);
      cost = omega (arith, before.cost, cost_here, cost_there, now.cost);
      shorter = omega (arith, before.shorter, size_here, size_there, now.shorter);
    }

pub returns-clause-cost : goal.returns-clause-cost
returns-clause-cost c =
    let none = ap cost_on (at_the_end c.loop-at.at c.args.lines.now (omega (arith, c.loop-at-test.false))) in
    omega (arith, none, c.loop-at.invariant.cost)

pub returns-clause-small : goal.returns-clause-small
returns-clause-small c =
    let none = ap cost_on (at_the_end c.loop-at.at c.args.lines.now (omega (arith, c.loop-at-test.false))) in
    omega (arith, none, c.loop-at.invariant.cost, costs_few (written_out c.args.lines.now))
