use Rattle.std.proofs.Common.{◌∙◌, ap}
use Rattle.std.specs.Prelude.{is_some}
use Rattle.pfs_script.specs.Headings.{Head, resolved}
use Rattle.pfs_script.proofs.HeadLemmas.{knows_resolved}
use Rattle.pfs_script.proofs.heading.Heading.find.Goals as goal

pub returns-clause-known : goal.returns-clause-known
returns-clause-known c lines e =
    ap is_some c.look_up.ensures ∙ (ap (λ (head : Head). is_some (resolved head c.args.name.now)) e ∙ knows_resolved lines c.args.name.now)
