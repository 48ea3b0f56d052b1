use Rattle.std.proofs.Common.{take, ◌∙◌}
use Rattle.pfs_view.proofs.RefusalReadings.{front_cut, front_read, to_the_end}
use Rattle.pfs_view.proofs.refusals.number_front.Goals as goal

pub returns : goal.returns
returns c = λ number rest fits plain is.
    let text = c.args.text.now in
    let end = c.digits_length-end.result in
    let cut = front_cut text rest number end fits plain is c.digits_length-end.ensures.length in
    (c.in_ok-number.ensures.1 ∙ (front_read (take end text) number fits cut.0).2, to_the_end text end ∙ cut.1)

pub returns-in_err-number : goal.returns-in_err-number
returns-in_err-number c = λ number rest fits plain is.
    let text = c.args.text.now in
    let end = c.digits_length-end.result in
    let cut = front_cut text rest number end fits plain is c.digits_length-end.ensures.length in
    let read = front_read (take end text) number fits cut.0 in
    rw c.from_residual.ensures (c.in_err-number.ensures (read.0, read.1))
