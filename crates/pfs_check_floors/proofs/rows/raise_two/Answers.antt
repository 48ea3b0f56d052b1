use Rattle.std.proofs.Common.{[], ◌∷◌}
use Rattle.std.proofs.lemmas.Result.{on_ok_weaker}
use Rattle.pfs_model.specs.Chains.{change_at}
use Rattle.pfs_check_floors.proofs.FloorFacts.{raised_both}
use Rattle.pfs_check_floors.proofs.rows.raise_two.Goals as goal

pub returns : goal.returns
returns c = on_ok_weaker c.raise-2.result
    (raised_both c.args.known.now c.raise.new.known c.raise-2.new.known c.args.session (change_at c.args.row c.args.one ∷ [])
    (change_at c.args.row c.args.other ∷ []) c.in_ok-raise.ensures)
    c.raise-2.ensures
