use Rattle.std.proofs.Common.{◌∙◌, sym, ap}
use Rattle.pfs_script.specs.Headings.{Head, resolved}
use Rattle.pfs_script.proofs.HeadLemmas.{resolved_absent, resolved_at}
use Rattle.pfs_script.proofs.heading.Heading.look_up.Goals as goal

pub returns-in_err-id : goal.returns-in_err-id
returns-in_err-id c =
    c.from_residual.ensures
    ∙ (sym (resolved_absent (record { names = c.self.inside.names; classes = c.self.inside.classes; limits = c.self.inside.limits; consumers = c.self.inside.consumers.0 }) c.args.name.now c.self.invariant c.in_err-id.ensures)
    ∙ ap (λ (head : Head). resolved head c.args.name.now) c.self.view_is)

pub returns : goal.returns
returns c =
    resolved_at (record { names = c.self.inside.names; classes = c.self.inside.classes; limits = c.self.inside.limits; consumers = c.self.inside.consumers.0 }) c.args.name.now c.in_ok-id.id c.find.result c.self.invariant c.in_ok-id.ensures c.find.ensures
    ∙ ap (λ (head : Head). resolved head c.args.name.now) c.self.view_is
