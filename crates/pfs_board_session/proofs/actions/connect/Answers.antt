use Rattle.std.proofs.Common.{◌<◌, ap, arith, refl, subst, sym, ◌∙◌}
use Rattle.std.specs.Prelude.{IfSome}
use Rattle.pfs_admin.specs.ConnectionAsks.{placed_of}
use Rattle.pfs_admin.specs.declared.admin.Placed.{Placed}
use Rattle.pfs_admin.specs.declared.changes.Change.TheVariants.{Connect}
use Rattle.pfs_admin.specs.AdministrationStates.{connected, seat_at, thread_flags}
use Rattle.pfs_board_admin.proofs.DeskActions.{connect_sets, named}
use Rattle.pfs_board_admin.specs.Desks.{sets_of}
use Rattle.pfs_board_store.specs.WriterWords.{number_of}
use Rattle.pfs_session.specs.Turns.{turns_calls}
use Rattle.pfs_board_session.proofs.SessionActions.{connect_calls, led, whole}
use Rattle.pfs_board_session.proofs.actions.connect.Goals as goal

pub connect-requires-clause-user : goal.connect-requires-clause-user
connect-requires-clause-user g c =
    let begun = c.requires.begun in
    let met = c.begin-admin.ensures.call begun.0 begun.1 begun.2 in
    omega (arith, c.requires.user, named g.N.Named.setting g.N.Named.change g.N.Shared.switches met.0 _ met.1 met.2)

pub connect-requires-clause-host : goal.connect-requires-clause-host
connect-requires-clause-host g c =
    let begun = c.requires.begun in
    let met = c.begin-admin.ensures.call begun.0 begun.1 begun.2 in
    omega (arith, c.requires.host, named g.N.Named.setting g.N.Named.change g.N.Shared.switches met.0 _ met.1 met.2)

pub finish-requires-clause-stands : goal.finish-requires-clause-stands
finish-requires-clause-stands g c =
    let old = c.args.session.now.state in
    let admin = c.begin-admin.result.0 in
    let begun = c.requires.begun in
    let met = c.begin-admin.ensures.call begun.0 begun.1 begun.2 in
    let p = c.connect.ensures.played in
    let slot : IfSome (placed_of (seat_at admin old.number c.args.user c.args.host)).thread (λ n. n < 32) =
    subst (λ (p : Placed). IfSome p.thread (λ n. n < 32)) c.connect.ensures.placed c.connect.ensures.slot in
    let sets = connect_sets admin.words (thread_flags admin c.args.user c.args.host) (connected admin old.number c.args.user c.args.host).kept.now (seat_at admin old.number c.args.user c.args.host) slot in
    let w = whole g.N.Named.setting g.N.Named.change g.N.Shared.switches _ met.0 admin met.1 begun.1 old (Connect c.args.user c.args.host) _ _ c.label.ensures c.requires.named met.2 c.connect.ensures.admin
    (connect_calls old p.turns admin c.args.user c.args.host p.are_turns p.steps_are)
    sets in (
      begun.0,
      _,
      p.did.goes begun.0 _ met.3,
      begun.3,
      w.stands,
      w.sets,
      c.connect.ensures.used.name ∙ met.4 ∙ ap (λ ls. number_of (sets_of g.N.Named.setting g.N.Named.change ls)) (sym w.labels_are),
    )

pub returns-clause-acted : goal.returns-clause-acted
returns-clause-acted g c =
    let old = c.args.session.now.state in
    let admin = c.begin-admin.result.0 in
    let p = c.connect.ensures.played in
    let slot : IfSome (placed_of (seat_at admin old.number c.args.user c.args.host)).thread (λ n. n < 32) =
    subst (λ (p : Placed). IfSome p.thread (λ n. n < 32)) c.connect.ensures.placed c.connect.ensures.slot in
    let sets = connect_sets admin.words (thread_flags admin c.args.user c.args.host) (connected admin old.number c.args.user c.args.host).kept.now (seat_at admin old.number c.args.user c.args.host) slot in
    record {
      admin = admin;
      turns = p.turns;
      are_turns = p.are_turns;
      steps_are = p.steps_are;
      state_is = p.state_is;
      entries_are = p.did.entries_are;
      leads = λ start calls reached.
          let met = c.begin-admin.ensures.call start calls reached in
          led g.N.Named.setting g.N.Named.change g.N.Shared.switches _ met.0 admin met.1 calls old (turns_calls p.turns) _ start _ c.label.ensures met.2
          (whole g.N.Named.setting g.N.Named.change g.N.Shared.switches _ met.0 admin met.1 calls old (Connect c.args.user c.args.host) _ _ c.label.ensures c.requires.named met.2 c.connect.ensures.admin
          (connect_calls old p.turns admin c.args.user c.args.host p.are_turns p.steps_are)
          sets)
          (c.finish.ensures.call start _ (p.did.goes start _ met.3));
    }

pub connect-requires-clause-may : goal.connect-requires-clause-may
connect-requires-clause-may g c = record {
  few = c.begin-admin.ensures.few;
  alone = c.begin-admin.ensures.alone;
  lent = c.begin-admin.ensures.lent;
  affords = record {
    left = omega (arith, c.begin-admin.ensures.left, c.requires.idle.left);
    draws = omega arith;
    room = c.requires.idle.room;
  };
}

pub returns-clause-used : goal.returns-clause-used
returns-clause-used g c = record {
  left = omega (arith, c.begin-admin.ensures.left, c.connect.ensures.used.left, c.finish.ensures.left);
  draws = omega (arith, c.begin-admin.ensures.draws, c.connect.ensures.used.draws, c.finish.ensures.draws);
  no_more = omega (arith, c.begin-admin.ensures.draws, c.connect.ensures.used.no_more, c.finish.ensures.draws);
  hand = λ r. c.finish.ensures.hand r ∙ sym (c.requires.idle.hand r);
  words = refl;
  name = refl;
  room = c.connect.ensures.used.room;
}
