use Rattle.std.proofs.Common.{◌∙◌, refl, sym, subst, arith}
use Rattle.std.specs.Prelude.{IsSome}
use Rattle.pfs_session.specs.Settlements.{owed_by_state}
use Rattle.pfs_session.proofs.HeldAmounts.{settle_few}
use Rattle.pfs_test_store.proofs.actions.quit.Goals as goal

pub quit-requires-clause-may : goal.quit-requires-clause-may
quit-requires-clause-may g c = record {
  few = omega (arith, c.requires.actions.0);
  alone = c.begin-hold.ensures.alone;
  lent = c.begin-hold.ensures.lent ∙ c.requires.lent;
  affords = record {
    left = omega (arith, c.requires.owed, c.requires.spare, c.begin-hold.ensures.left);
    draws = omega arith;
    room = omega (arith, settle_few (owed_by_state c.args.session.now.state), c.requires.owed, c.requires.room);
  };
}

pub finish-requires-clause-begun : goal.finish-requires-clause-begun
finish-requires-clause-begun g c =
    let begun = c.begin-hold.ensures.begun in
    (begun.0, _, c.quit.ensures.played.did.goes begun.0 begun.1 begun.2)

pub finish-requires-clause-inside : goal.finish-requires-clause-inside
finish-requires-clause-inside g c = subst (λ o. IsSome o) (sym (c.quit.ensures.used.hand 0)) c.begin-hold.ensures.inside

pub finish-requires-clause-alone : goal.finish-requires-clause-alone
finish-requires-clause-alone g c = λ r above. c.quit.ensures.used.hand r ∙ c.begin-hold.ensures.alone r above

pub finish-requires-clause-lent : goal.finish-requires-clause-lent
finish-requires-clause-lent g c = subst (λ o. IsSome o) (sym c.quit.ensures.used.words) refl

pub returns-clause-lent : goal.returns-clause-lent
returns-clause-lent g c = c.finish.ensures.lent ∙ c.quit.ensures.used.words
