use Rattle.std.proofs.Common.{◌≡◌, [], IfOk, ap, subst}
use Rattle.pfs_rows.specs.declared.limits.Limits.{Limits}
use Rattle.pfs_rows.specs.Limits.{default_limits}
use Rattle.pfs_script.specs.Headings.{Head, head_with, naming_under, head_of, naming_of, limits_of, consumers_of}
use Rattle.pfs_script.proofs.heading.Heading.begin.Goals as goal

no_lines : (limits : Limits) → limits ≡ default_limits → head_with (naming_under limits) limits 28888 ≡ head_of []
unfolding head_of naming_of limits_of consumers_of
no_lines limits e = ap (λ (one : Limits). head_with (naming_under one) one 28888) e

pub returns : goal.returns
returns c = subst (λ (head : Head). IfOk c.under.result (λ heading. heading ≡ head)) (no_lines c.opening.result c.opening.ensures) c.under.ensures
