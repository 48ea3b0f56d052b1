use Rattle.std.proofs.Common.{ℕ, List, ◌++◌, ap, ◌∙◌}
use Rattle.pfs_gen.proofs.Draws.{unit_is, fourth_is}
use Rattle.pfs_gen.proofs.units.put_unit.Goals as goal

pub returns-in-Ok-clause-text : goal.returns-in-Ok-clause-text
returns-in-Ok-clause-text c = λ number unit from.
    c.in-Ok.ensures ∙ ap (λ (z : List ℕ). c.args.out.now.items ++ z)
    (unit_is number unit c.args.state c.step-first.result c.step-second.result c.step-third.result c.step-fourth.result from c.step-first.ensures c.step-second.ensures c.step-third.ensures c.step-fourth.ensures
    _ _ _ _ c.drawn-statement.ensures c.drawn-before.ensures c.drawn-wait.ensures c.drawn-inside.ensures)

pub returns-in-Ok-clause-next : goal.returns-in-Ok-clause-next
returns-in-Ok-clause-next c = λ number unit from.
    fourth_is number unit c.args.state c.step-first.result c.step-second.result c.step-third.result c.step-fourth.result from c.step-first.ensures c.step-second.ensures c.step-third.ensures c.step-fourth.ensures
