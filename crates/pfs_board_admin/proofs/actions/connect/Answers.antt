use Rattle.std.proofs.Common.{◌≡◌, ◌<◌, ◌+◌, ◌∷◌, [], List, ap, sym, ◌∙◌, subst, arith}
use Rattle.std.specs.Prelude.{IfSome}
use Rattle.atomic_table.specs.Seated.{TableId}
use Rattle.pfs_admin.specs.ConnectionAsks.{connect_entry, work_of_connect}
use Rattle.pfs_admin.specs.declared.admin.Placed.{Placed}
use Rattle.pfs_admin.specs.AdministrationStates.{State, connected, seat_at, thread_flags}
use Rattle.pfs_levels.specs.declared.answers.Word.{Word}
use Rattle.pfs_levels.specs.Calls.{Enters}
use Rattle.pfs_switches.specs.SeatViews.{Known}
use Rattle.pfs_board_admin.proofs.DeskActions.{SetsEach, acted, connect_sets, ended, followed, named, returned, same_desk}
use Rattle.pfs_board_admin.proofs.QuietActions.{few_actions}
use Rattle.pfs_board_admin.proofs.actions.connect.Goals as goal

pub connect-placed-requires-clause-few : goal.connect-placed-requires-clause-few
connect-placed-requires-clause-few g c =
    let begun = c.requires.begun in
    let entered = c.enter-desk.ensures.call begun.0 begun.1 begun.2 in
    few_actions g.N.Named.setting g.N.Named.change g.N.Shared.switches entered.0 _ _ entered.1.1 _ entered.1.0 c.enter-desk.ensures.number _ c.into_parts-admin.ensures.admin

pub connect-placed-requires-clause-user : goal.connect-placed-requires-clause-user
connect-placed-requires-clause-user g c =
    let begun = c.requires.begun in
    let entered = c.enter-desk.ensures.call begun.0 begun.1 begun.2 in
    let is = same_desk g.N.Named.setting g.N.Named.change g.N.Shared.switches entered.0 _ _ entered.1.1 _ _ c.into_parts-admin.ensures.admin c.into_parts-admin.ensures.writer in
    omega (arith, c.requires.user, named g.N.Named.setting g.N.Named.change g.N.Shared.switches entered.0 _ _ is)

pub connect-placed-requires-clause-host : goal.connect-placed-requires-clause-host
connect-placed-requires-clause-host g c =
    let begun = c.requires.begun in
    let entered = c.enter-desk.ensures.call begun.0 begun.1 begun.2 in
    let is = same_desk g.N.Named.setting g.N.Named.change g.N.Shared.switches entered.0 _ _ entered.1.1 _ _ c.into_parts-admin.ensures.admin c.into_parts-admin.ensures.writer in
    omega (arith, c.requires.host, named g.N.Named.setting g.N.Named.change g.N.Shared.switches entered.0 _ _ is)

pub leave-requires-clause-value : goal.leave-requires-clause-value
leave-requires-clause-value g c =
    let old = c.into_parts-admin.result.0 in
    let what = work_of_connect old c.args.label.session c.args.user c.args.host in
    let begun = c.requires.begun in
    let entered = c.enter-desk.ensures.call begun.0 begun.1 begun.2 in
    let is = same_desk g.N.Named.setting g.N.Named.change g.N.Shared.switches entered.0 _ _ entered.1.1 _ _ c.into_parts-admin.ensures.admin c.into_parts-admin.ensures.writer in
    let met = c.new-hold.ensures.call begun.0 (Enters c.args.label entered.0 ∷ begun.1) entered.1.2 in
    let worked = c.connect-placed.ensures.worked in
    let done = worked.did.goes begun.0 _ met in
    let from = subst (λ (t : TableId). IfSome c.into_parts-rows.result.1 (λ (x : Known). x.switches ≡ t)) begun.3 (c.into_parts-rows.ensures.same begun.0 _ done) in
    let sets = returned c.into_parts-rows.result.1 old.words what.flags worked.made worked.moves c.into_parts-admin.result.1.view.seen (Enters c.args.label entered.0 ∷ begun.1) _ _
    (c.into_parts-rows.ensures.sets begun.0 _ done c.into_parts-admin.result.1.view.sets (c.connect-placed.ensures.used.name ∙ c.new-hold.ensures.name)) is.sets in
    let then = followed g.N.Named.setting g.N.Named.change g.N.Shared.switches entered.0 _ _ is c.args.label _ _ _ _ _ _ _ c.requires.named c.connect-placed.ensures.stands c.new.ensures.admin c.new.ensures.writer c.in-Some.is
    c.into_parts-rows.ensures.words c.connect-placed.ensures.used.words from sets in (
      begun.0,
      _,
      c.into_parts-rows.ensures.call begun.0 _ done,
      ended g.N.Named.setting g.N.Named.change g.N.Shared.switches c.args.label entered.0 _ _ old.words what.flags worked.made worked.moves c.into_parts-admin.result.1.view.seen begun.1 then,
    )

pub returns-clause-acted : goal.returns-clause-acted
returns-clause-acted g c = λ start calls reached.
    let begun = c.requires.begun in
    let old = c.into_parts-admin.result.0 in
    let what = work_of_connect old c.args.label.session c.args.user c.args.host in
    let entered = c.enter-desk.ensures.call start calls reached in
    let is = same_desk g.N.Named.setting g.N.Named.change g.N.Shared.switches entered.0 _ _ entered.1.1 _ _ c.into_parts-admin.ensures.admin c.into_parts-admin.ensures.writer in
    let worked = c.connect-placed.ensures.worked in
    let before = c.enter-desk.ensures.call begun.0 begun.1 begun.2 in
    let known = worked.did.goes begun.0 _ (c.new-hold.ensures.call begun.0 (Enters c.args.label before.0 ∷ begun.1) before.1.2) in
    let from = subst (λ (t : TableId). IfSome c.into_parts-rows.result.1 (λ (x : Known). x.switches ≡ t)) begun.3 (c.into_parts-rows.ensures.same begun.0 _ known) in
    let sets = returned c.into_parts-rows.result.1 old.words what.flags worked.made worked.moves c.into_parts-admin.result.1.view.seen (Enters c.args.label before.0 ∷ begun.1) _ _
    (c.into_parts-rows.ensures.sets begun.0 _ known c.into_parts-admin.result.1.view.sets (c.connect-placed.ensures.used.name ∙ c.new-hold.ensures.name)) is.sets in
    let then = followed g.N.Named.setting g.N.Named.change g.N.Shared.switches entered.0 _ _ is c.args.label _ _ _ _ _ _ _ c.requires.named c.connect-placed.ensures.stands c.new.ensures.admin c.new.ensures.writer c.in-Some.is
    c.into_parts-rows.ensures.words c.connect-placed.ensures.used.words from sets in
    let done = worked.did.goes start _ (c.new-hold.ensures.call start (Enters c.args.label entered.0 ∷ calls) entered.1.2) in
    let low = subst (λ (p : Placed). IfSome p.thread (λ n. n < 32)) c.connect-placed.ensures.placed c.connect-placed.ensures.slot in
    let words = ap (λ (s : State). s.words) (c.new.ensures.admin ∙ c.connect-placed.ensures.step) in
    let sets_each = subst (λ (ws : List Word). SetsEach old.words what.flags ws) (sym words)
    (connect_sets old.words (thread_flags old c.args.user c.args.host) (connected old c.args.label.session c.args.user c.args.host).kept.now (seat_at old c.args.label.session c.args.user c.args.host) low) in (
      _,
      old,
      c.leave.ensures.call start _ (c.into_parts-rows.ensures.call start _ done),
      acted g.N.Named.setting g.N.Named.change g.N.Shared.switches c.args.label (λ s. work_of_connect s c.args.label.session c.args.user c.args.host) entered.0 old _ _ _ calls worked.moves worked.made
          (λ s. connect_entry (s.actions + 1) (seat_at s c.args.label.session c.args.user c.args.host) ∷ []) _ _ worked.did.entries_are is then worked.are_moves worked.signs_are sets_each,
      c.connect-placed.ensures.placed,
    )
