use Rattle.std.proofs.Common.{◌∙◌, refl, sym, subst, arith}
use Rattle.std.specs.Prelude.{IsSome}
use Rattle.pfs_session.specs.Settlements.{owed_by_state}
use Rattle.pfs_session.proofs.HeldAmounts.{settle_few}
use Rattle.pfs_test_store.proofs.actions.truncate.Goals as goal

pub truncate-reply-requires-clause-may : goal.truncate-reply-requires-clause-may
truncate-reply-requires-clause-may g c = record {
  few = omega (arith, c.requires.actions.0);
  alone = c.begin-hold.ensures.alone;
  lent = c.begin-hold.ensures.lent ∙ c.requires.lent;
  affords = record {
    left = omega (arith, c.requires.owed, c.requires.spare, c.begin-hold.ensures.left, c.requires.cost);
    draws = omega arith;
    room = omega (arith, settle_few (owed_by_state c.args.session.now.state), c.requires.owed, c.requires.room, c.requires.cost);
  };
}

pub finish-rows-requires-clause-begun : goal.finish-rows-requires-clause-begun
finish-rows-requires-clause-begun g c =
    let begun = c.begin-hold.ensures.begun in
    (begun.0, _, c.truncate-reply.ensures.played.did.goes begun.0 begun.1 begun.2)

pub finish-rows-requires-clause-inside : goal.finish-rows-requires-clause-inside
finish-rows-requires-clause-inside g c = subst (λ o. IsSome o) (sym (c.truncate-reply.ensures.used.hand 0)) c.begin-hold.ensures.inside

pub finish-rows-requires-clause-alone : goal.finish-rows-requires-clause-alone
finish-rows-requires-clause-alone g c = λ r above. c.truncate-reply.ensures.used.hand r ∙ c.begin-hold.ensures.alone r above

pub finish-rows-requires-clause-lent : goal.finish-rows-requires-clause-lent
finish-rows-requires-clause-lent g c = subst (λ o. IsSome o) (sym c.truncate-reply.ensures.used.words) refl

pub returns-clause-lent : goal.returns-clause-lent
returns-clause-lent g c = c.finish-rows.ensures.lent ∙ c.truncate-reply.ensures.used.words
