use Rattle.std.proofs.Common.{refl, sym, ◌∙◌}
use Rattle.pfs_session.specs.Settlements.{owed_from}
use Rattle.pfs_session.proofs.HeldAmounts.{owed_same, owed_there, no_option}
use Rattle.pfs_session.proofs.paying.is_empty.Goals as goal

pub loop-one-init : goal.loop-one-init
unfolding owed_from
loop-one-init c = refl

pub returns-then-is_some-clause-some : goal.returns-then-is_some-clause-some
returns-then-is_some-clause-some c = λ e.
    owed_there c.args.slot c.args.held.now c.loop-one.one-index c.loop-one-test.true (sym c.is_some.ensures ∙ c.if-is_some.true)

pub loop-one-preserved : goal.loop-one-preserved
loop-one-preserved c =
    owed_same c.args.slot c.args.held.now c.loop-one.one-index c.loop-one-test.true (no_option _ (sym c.is_some.ensures ∙ c.if-is_some.false))
    ∙ c.loop-one.invariant
