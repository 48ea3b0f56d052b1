use Rattle.std.proofs.Common.{◌∙◌, ap, length, take, drop, arith}
use Rattle.pfs_view.proofs.TextSteps.{copies_none, copies_past, round_more, rounds_over}
use Rattle.pfs_view.proofs.texts.put_copies.Goals as goal

pub returns-then-start-all : goal.returns-then-start-all
returns-then-start-all c =
    let same = ap length c.as_slice-all.ensures.value in
    copies_past c.args.texts.now.items c.args.start c.args.times (omega (arith, same, c.if-start-all.true))

pub loop-round-init : goal.loop-round-init
loop-round-init c =
    c.truncate.ensures.items ∙ copies_none (take c.args.start c.args.texts.now.items) (drop c.args.start c.args.texts.now.items)

pub loop-round-preserved : goal.loop-round-preserved
loop-round-preserved c = round_more c.args.texts.now.items _ _ _ _ c.args.start c.loop-round.round c.loop-round.invariant
    c.in_ok-extend_from_slice.ensures.items (c.as_slice-again.ensures.value ∙ c.in_ok-body.ensures.items) c.as_slice-all.ensures.value

pub returns : goal.returns
returns c = rounds_over c.args.texts.now.items _ c.args.start c.loop-round.round c.args.times c.loop-round.invariant (omega arith)
