use Rattle.std.proofs.Common.{◌∙◌, refl, sym, subst, arith}
use Rattle.std.specs.Prelude.{IsSome}
use Rattle.pfs_test_store.proofs.actions.connect.Goals as goal

pub connect-requires-clause-may : goal.connect-requires-clause-may
connect-requires-clause-may g c = record {
  few = omega (arith, c.requires.few);
  alone = c.begin-hold.ensures.alone;
  lent = c.begin-hold.ensures.lent ∙ c.requires.between.lent;
  affords = record {
    left = omega (arith, c.requires.affords.left, c.begin-hold.ensures.left);
    draws = omega arith;
    room = omega (arith, c.requires.affords.room);
  };
}

pub finish-requires-clause-begun : goal.finish-requires-clause-begun
finish-requires-clause-begun g c =
    let begun = c.begin-hold.ensures.begun in
    (begun.0, _, c.connect.ensures.played.did.goes begun.0 begun.1 begun.2)

pub finish-requires-clause-inside : goal.finish-requires-clause-inside
finish-requires-clause-inside g c = subst (λ o. IsSome o) (sym (c.connect.ensures.used.hand 0)) c.begin-hold.ensures.inside

pub finish-requires-clause-alone : goal.finish-requires-clause-alone
finish-requires-clause-alone g c = λ r above. c.connect.ensures.used.hand r ∙ c.begin-hold.ensures.alone r above

pub finish-requires-clause-lent : goal.finish-requires-clause-lent
finish-requires-clause-lent g c = subst (λ o. IsSome o) (sym c.connect.ensures.used.words) refl

pub returns-clause-between : goal.returns-clause-between
returns-clause-between g c = record {
  begun = c.finish.ensures.begun;
  wide = c.finish.ensures.wide;
  idle = c.finish.ensures.idle;
  lent = c.finish.ensures.lent ∙ c.connect.ensures.used.words;
}
