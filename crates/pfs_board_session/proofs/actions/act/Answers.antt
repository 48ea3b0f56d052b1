use Rattle.std.proofs.Common.{ap, arith, refl, sym, ◌∙◌}
use Rattle.pfs_admin.specs.declared.changes.Change.TheVariants.{Setup}
use Rattle.pfs_board_admin.specs.Desks.{sets_of}
use Rattle.pfs_board_store.specs.WriterWords.{number_of}
use Rattle.pfs_session.specs.Turns.{turns_calls}
use Rattle.pfs_board_session.proofs.SessionActions.{act_calls, led, stated_sets, whole}
use Rattle.pfs_board_session.proofs.actions.act.Goals as goal

pub finish-requires-clause-stands : goal.finish-requires-clause-stands
finish-requires-clause-stands g c =
    let old = c.args.session.now.state in
    let admin = c.begin-admin.result.0 in
    let begun = c.requires.begun in
    let met = c.begin-admin.ensures.call begun.0 begun.1 begun.2 in
    let p = c.act.ensures.played in
    let w = whole g.N.Named.setting g.N.Named.change g.N.Shared.switches _ met.0 admin met.1 begun.1 old (Setup c.args.what) _ _ c.label.ensures c.requires.named met.2 c.act.ensures.admin
    (act_calls old p.turns admin c.args.what p.are_turns p.steps_are)
    (stated_sets admin c.args.what) in (
      begun.0,
      _,
      p.did.goes begun.0 _ met.3,
      begun.3,
      w.stands,
      w.sets,
      c.act.ensures.used.name ∙ met.4 ∙ ap (λ ls. number_of (sets_of g.N.Named.setting g.N.Named.change ls)) (sym w.labels_are),
    )

pub returns-clause-acted : goal.returns-clause-acted
returns-clause-acted g c =
    let old = c.args.session.now.state in
    let admin = c.begin-admin.result.0 in
    let p = c.act.ensures.played in
    record {
      admin = admin;
      turns = p.turns;
      are_turns = p.are_turns;
      steps_are = p.steps_are;
      state_is = p.state_is;
      entries_are = p.did.entries_are;
      leads = λ start calls reached.
          let met = c.begin-admin.ensures.call start calls reached in
          led g.N.Named.setting g.N.Named.change g.N.Shared.switches _ met.0 admin met.1 calls old (turns_calls p.turns) _ start _ c.label.ensures met.2
          (whole g.N.Named.setting g.N.Named.change g.N.Shared.switches _ met.0 admin met.1 calls old (Setup c.args.what) _ _ c.label.ensures c.requires.named met.2 c.act.ensures.admin
          (act_calls old p.turns admin c.args.what p.are_turns p.steps_are)
          (stated_sets admin c.args.what))
          (c.finish.ensures.call start _ (p.did.goes start _ met.3));
    }

pub act-requires-clause-may : goal.act-requires-clause-may
act-requires-clause-may g c = record {
  few = c.begin-admin.ensures.few;
  alone = c.begin-admin.ensures.alone;
  lent = c.begin-admin.ensures.lent;
  affords = record {
    left = omega (arith, c.begin-admin.ensures.left, c.requires.idle.left);
    draws = omega arith;
    room = c.requires.idle.room;
  };
}

pub returns-clause-used : goal.returns-clause-used
returns-clause-used g c = record {
  left = omega (arith, c.begin-admin.ensures.left, c.act.ensures.used.left, c.finish.ensures.left);
  draws = omega (arith, c.begin-admin.ensures.draws, c.act.ensures.used.draws, c.finish.ensures.draws);
  no_more = omega (arith, c.begin-admin.ensures.draws, c.act.ensures.used.no_more, c.finish.ensures.draws);
  hand = λ r. c.finish.ensures.hand r ∙ sym (c.requires.idle.hand r);
  words = refl;
  name = refl;
  room = c.act.ensures.used.room;
}
