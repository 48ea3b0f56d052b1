use Rattle.std.proofs.Common.{ap, length, sym}
use Rattle.pfs_view.proofs.TextSteps.{begun, put_outside}
use Rattle.pfs_view.proofs.texts.put_outside.Goals as goal

pub returns-in-Some : goal.returns-in-Some
returns-in-Some c = λ whole rest written. begun whole c.args.texts.now.items c.args.said.now rest c.in-Some.times _
    (sym c.in-Some.ensures) (ap length c.as_slice.ensures.value) written

pub returns-in_ok-put_text-in-None : goal.returns-in_ok-put_text-in-None
returns-in_ok-put_text-in-None c = λ whole rest written.
    put_outside whole c.args.texts.now.items _ c.args.said.now rest (sym c.in-None.ensures) c.in_ok-put_text-in-None.ensures written
