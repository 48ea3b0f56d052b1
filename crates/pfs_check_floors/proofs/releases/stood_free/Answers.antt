use Rattle.std.proofs.Common.{◌∙◌}
use Rattle.pfs_model.specs.Chains.{change_at}
use Rattle.pfs_check_floors.proofs.RowFacts.{stood_is}
use Rattle.pfs_check_floors.proofs.releases.stood_free.Goals as goal

pub returns : goal.returns
returns c = λ all freed begun.
    c.is_free.ensures
    ∙ stood_is all c.args.phase c.args.row c.args.start c.was_freed-freed_before.result begun
    (c.was_freed-freed_before.ensures ∙ freed (change_at c.args.row c.args.start) c.args.phase)
