use Rattle.std.proofs.Common.{ap, ◌∙◌}
use Rattle.pfs_board_store.specs.WriterWords.{number_of}
use Rattle.pfs_board_admin.proofs.DeskActions.{same_desk}
use Rattle.pfs_board_admin.proofs.QuietActions.{few_actions}
use Rattle.pfs_board_session.proofs.desks.begin.Goals as goal

pub returns-clause-call : goal.returns-clause-call
returns-clause-call g c = λ start calls reached.
    let entered = c.enter-desk.ensures.call start calls reached in
    let parts = c.into_parts-admin.ensures in
    let is = same_desk g.N.Named.setting g.N.Named.change g.N.Shared.switches entered.0 _ _ entered.1.1 _ _ parts.admin parts.writer in (
      entered.0,
      c.into_parts-admin.result.1,
      is,
      c.new.ensures.call start _ entered.1.2,
      c.new.ensures.name ∙ ap number_of is.sets,
    )

pub returns-clause-few : goal.returns-clause-few
returns-clause-few g c =
    let begun = c.requires.begun in
    let entered = c.enter-desk.ensures.call begun.0 begun.1 begun.2 in
    few_actions g.N.Named.setting g.N.Named.change g.N.Shared.switches entered.0 _ _ entered.1.1 _ entered.1.0 c.enter-desk.ensures.number _ c.into_parts-admin.ensures.admin
