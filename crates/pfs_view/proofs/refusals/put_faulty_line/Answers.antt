use Rattle.std.proofs.Common.{ℕ, List, ◌++◌, ap, append_assoc, ◌∙◌}
use Rattle.std.specs.Prelude.{codes, decimal}
use Rattle.pfs_view.specs.Refusals.{faulty_line}
use Rattle.pfs_view.proofs.refusals.put_faulty_line.Goals as goal

pub returns : goal.returns
unfolding faulty_line
returns c =
    c.in_ok-put_u64.ensures.ok
    ∙ (ap (λ (z : List ℕ). z ++ decimal c.args.line) c.in_ok-extend_from_slice.ensures.items
    ∙ append_assoc c.args.out.now.items (codes "bad script: line ") (decimal c.args.line))
