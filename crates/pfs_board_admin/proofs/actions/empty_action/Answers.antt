use Rattle.std.proofs.Common.{◌∷◌, ap, ◌∙◌}
use Rattle.pfs_admin.specs.AdministrationStates.{State}
use Rattle.pfs_levels.specs.Calls.{Enters}
use Rattle.pfs_board_admin.proofs.QuietActions.{few_actions, shown, shows_words}
use Rattle.pfs_board_admin.proofs.actions.empty_action.Goals as goal

pub note-requires : goal.note-requires
note-requires g c =
    let begun = c.requires.begun in
    let entered = c.enter-number.ensures.call begun.0 begun.1 begun.2 in
    few_actions g.N.Named.setting g.N.Named.change g.N.Shared.switches entered.0 _ _ entered.1.1 _ entered.1.0 c.enter-number.ensures.number _ c.into_parts-admin.ensures.admin

pub leave-requires-clause-value : goal.leave-requires-clause-value
leave-requires-clause-value g c =
    let begun = c.requires.begun in
    let entered = c.enter-number.ensures.call begun.0 begun.1 begun.2 in (
      begun.0,
      Enters c.args.label entered.0 ∷ begun.1,
      entered.1.2,
      shown g.N.Named.setting g.N.Named.change g.N.Shared.switches entered.0 _ _ entered.1.1 c.args.label c.requires.named _ _ _ _
          c.into_parts-admin.ensures.admin (c.note.ensures.stands c.args.label.session) (ap (λ (s : State). s.words) c.note.ensures.step ∙ shows_words c.into_parts-admin.result.0)
          c.new.ensures.admin (c.new.ensures.writer ∙ c.into_parts-admin.ensures.writer),
    )

pub returns-clause-call : goal.returns-clause-call
returns-clause-call g c = λ start calls reached.
    let entered = c.enter-number.ensures.call start calls reached in
    (entered.0, (entered.1.0, c.leave.ensures.call start (Enters c.args.label entered.0 ∷ calls) entered.1.2))
