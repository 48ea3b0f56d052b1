use Rattle.std.proofs.Common.{◌+◌, drop, refl, subst}
use Rattle.std.proofs.lemmas.List.{drop_all}
use Rattle.pfs_view.specs.AskedTexts.{IsWritten, texts_of}
use Rattle.pfs_view.proofs.TextSteps.{all_written, parted}
use Rattle.pfs_view.proofs.texts.texts_of.Goals as goal

pub loop-line-init : goal.loop-line-init
unfolding texts_of
loop-line-init c = rw c.new-texts.ensures.items refl

pub loop-line-preserved : goal.loop-line-preserved
loop-line-preserved c =
    let whole = texts_of c.args.said.now in
    c.in_ok-repeat.ensures whole (drop (c.loop-line.line-index + 1) c.args.said.now)
    (subst (IsWritten whole c.loop-line.repeat c.loop-line.texts.items)
    (parted c.args.said.now c.loop-line.line-index c.line-item.result c.loop-line-test.true c.line-item.is) c.loop-line.invariant)

pub returns : goal.returns
returns c =
    let whole = texts_of c.args.said.now in
    all_written whole c.loop-line.repeat c.loop-line.texts.items
    (subst (IsWritten whole c.loop-line.repeat c.loop-line.texts.items)
    (drop_all c.loop-line.line-index c.args.said.now c.loop-line-test.false) c.loop-line.invariant)
