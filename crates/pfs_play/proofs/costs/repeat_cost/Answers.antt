use Rattle.std.proofs.Common.{◌+◌, ◌∙◌, ap, sym, length, drop, arith}
use Rattle.pfs_script.specs.Marks.{written_out}
use Rattle.pfs_play.specs.Errands.{cost_on}
use Rattle.pfs_play.proofs.LineCosts.{round_cost, open_cost}
use Rattle.pfs_play.proofs.WrittenRepeats.{nothing_behind}
use Rattle.pfs_play.proofs.costs.repeat_cost.Goals as goal

pub rounds_cost-requires : goal.rounds_cost-requires
rounds_cost-requires c =
    let r = round_cost c.args.times c.in-Some.end c.args.lines.now (sym c.done_in.ensures ∙ c.in-Some.is) in
    record { short = omega (arith, r.lengths, c.requires.short) }

pub rounds_cost-requires-in-None : goal.rounds_cost-requires-in-None
rounds_cost-requires-in-None c =
    let w = ap length (open_cost c.args.times c.args.lines.now (sym c.done_in.ensures ∙ c.in-None.is)) in
    record { short = omega (arith, w, c.requires.short) }

pub returns-in-Ok-clause-cost : goal.returns-in-Ok-clause-cost
returns-in-Ok-clause-cost c =
    let r = round_cost c.args.times c.in-Some.end c.args.lines.now (sym c.done_in.ensures ∙ c.in-Some.is) in
    r.cost ∙ ap (λ n. n + cost_on (written_out (drop (c.in-Some.end + 1) c.args.lines.now))) (sym c.in-Ok.ensures)

pub returns-in-Ok-clause-shorter : goal.returns-in-Ok-clause-shorter
returns-in-Ok-clause-shorter c =
    let r = round_cost c.args.times c.in-Some.end c.args.lines.now (sym c.done_in.ensures ∙ c.in-Some.is) in
    omega (arith, r.lengths)

pub returns-in-Ok-rounds_cost-clause-cost : goal.returns-in-Ok-rounds_cost-clause-cost
returns-in-Ok-rounds_cost-clause-cost c =
    let w = ap cost_on (open_cost c.args.times c.args.lines.now (sym c.done_in.ensures ∙ c.in-None.is)) in
    let none = ap cost_on (nothing_behind c.args.lines.now) in
    let its = c.in-Ok-rounds_cost.ensures in
    omega (arith, w, none, its)

pub returns-in-Ok-rounds_cost-clause-shorter : goal.returns-in-Ok-rounds_cost-clause-shorter
returns-in-Ok-rounds_cost-clause-shorter c =
    let none = ap length (nothing_behind c.args.lines.now) in
    omega (arith, none)
