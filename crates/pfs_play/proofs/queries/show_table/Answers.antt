use Rattle.std.proofs.Common.{◌+◌, ◌≤◌, arith, ap, length}
use Rattle.pfs_session.proofs.HeldAmounts.{nothing_owed}
use Rattle.pfs_session.specs.Settlements.{owed_by_state}
use Rattle.pfs_session.specs.SessionStates.{State}
use Rattle.pfs_play.proofs.ErrandParts.{show_ran}
use Rattle.pfs_play.proofs.HeldBounds.{owed_fits, settling_fits}
use Rattle.pfs_play.proofs.queries.show_table.Goals as goal

pub show_held-requires-clause-acts : goal.show_held-requires-clause-acts
show_held-requires-clause-acts g c =
    let owed = owed_fits c.args.session.now.state c.requires.wide in
    let settling = settling_fits c.args.session.now.state c.requires.wide in
    let acts = c.requires.acts in
    record {
      begun = acts.begun;
      affords = record {
        left = omega (arith, owed, acts.affords.left);
        draws = omega arith;
        room = omega (arith, settling, acts.affords.room);
      };
    }

pub returns-clause-run : goal.returns-clause-run
returns-clause-run g c = λ setting.
    show_ran setting g.A.Actor.setting g.A.Actor.change c.args.what c.in_ok-answer.answer c.args.session.now c.show_held.new.session c.args.answers.now.items c.push.new.self.items (g.A.Readable.seen c.args.actor.now).reached (g.A.Readable.seen c.show_held.new.self).reached
    c.in_ok-push.ensures.items c.in_ok-answer.ensures.shown

pub returns-clause-owed : goal.returns-clause-owed
returns-clause-owed g c =
    let same = ap (λ (s : State). length (owed_by_state s)) c.show_held.ensures.rest in
    let none = ap length (nothing_owed c.args.session.now.state.place.thread) in
    omega (arith, same, none)

pub returns-clause-used : goal.returns-clause-used
returns-clause-used g c =
    let owed = owed_fits c.args.session.now.state c.requires.wide in
    let settling = settling_fits c.args.session.now.state c.requires.wide in
    let used = c.show_held.ensures.used in
    record {
      left = omega (arith, owed, used.left);
      draws = used.draws;
      no_more = used.no_more;
      hand = used.hand;
      words = used.words;
      name = used.name;
      room = omega (arith, settling, used.room);
    }
