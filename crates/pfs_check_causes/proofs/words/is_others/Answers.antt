use Rattle.std.proofs.Common.{◌∙◌, ap}
use Rattle.pfs_model.specs.Chains.{row_change}
use Rattle.pfs_check_floors.specs.KnownFloors.{had_by}
use Rattle.pfs_check_floors.specs.RowNames.{rows_shown}
use Rattle.pfs_check_causes.specs.OwnVersions.{own_at, was_made}
use Rattle.pfs_check_causes.proofs.OwnFacts.{others_tell}
use Rattle.pfs_check_causes.proofs.words.is_others.Goals as goal

pub returns : goal.returns
returns c = λ all earlier place known made at positive.
    others_tell all place c.args.row c.args.version c.had-had.result c.is_own-own.result c.is_anothers.result known.floors.chained positive
    (c.had-had.ensures row_change rows_shown all earlier known.floors ∙ ap (λ z. had_by row_change all z c.args.row) at.phase)
    (c.is_own-own.ensures ∙ made (own_at c.args.seat.session c.args.row c.args.version)
    ∙ ap (λ z. was_made all (own_at z c.args.row c.args.version)) at.session)
    c.is_anothers.ensures
