use Rattle.std.proofs.Common.{arith, ap, length}
use Rattle.pfs_session.specs.Settlements.{owed_by_state}
use Rattle.pfs_session.specs.SessionStates.{State}
use Rattle.pfs_session.proofs.HeldAmounts.{nothing_owed}
use Rattle.pfs_play.proofs.HeldBounds.{owed_fits, settling_fits, words_fit}
use Rattle.pfs_play.proofs.requests.change_table.Goals as goal

pub act-requires-clause-acts : goal.act-requires-clause-acts
act-requires-clause-acts g c =
    let owed = owed_fits c.args.session.now.state c.requires.wide in
    let settling = settling_fits c.args.session.now.state c.requires.wide in
    let acts = c.requires.acts in
    record {
      begun = acts.begun;
      affords = record {
        left = omega (arith, owed, acts.affords.left);
        draws = omega arith;
        room = omega (arith, settling, words_fit c.args.what, acts.affords.room);
      };
    }

pub returns-clause-owed : goal.returns-clause-owed
returns-clause-owed g c =
    let same = ap (λ (s : State). length (owed_by_state s)) c.act.ensures.rest in
    let none = ap length (nothing_owed c.args.session.now.state.place.thread) in
    omega (arith, same, none)

pub returns-clause-used : goal.returns-clause-used
returns-clause-used g c =
    let owed = owed_fits c.args.session.now.state c.requires.wide in
    let settling = settling_fits c.args.session.now.state c.requires.wide in
    let used = c.act.ensures.used in
    record {
      left = omega (arith, owed, used.left);
      draws = used.draws;
      no_more = used.no_more;
      hand = used.hand;
      words = used.words;
      name = used.name;
      room = omega (arith, settling, words_fit c.args.what, used.room);
    }
