use Rattle.std.proofs.Common.{ap, sym, Ok, ◌∙◌}
use Rattle.std.proofs.lemmas.Result.{err_from_is_err_and}
use Rattle.pfs_digest.specs.PieceBytes.{spelled}
use Rattle.pfs_digest.proofs.PassAnswers.{text-is, no-stack}
use Rattle.pfs_digest.proofs.digests.digest_text.Goals as goal

pub returns-in_err-stack : goal.returns-in_err-stack
returns-in_err-stack c =
    let p = err_from_is_err_and c.from_residual.result c.from_residual.ensures.1 in
    rw (p.1, p.2)
    (no-stack c.args.text.now c.in_err-stack.field-0.0 c.in_err-stack.ensures)

pub returns : goal.returns
returns c =
    let text = c.args.text.now in
    text-is text c.in_ok-stack.stack.items c.in_ok-stack.ensures
    ∙ ap Ok (
    ap (spelled text) (sym (c.as_slice.ensures.value ∙ c.drop_semicolons.ensures))
    ∙ ap (λ bytes. spelled bytes c.as_slice.result.now) (sym c.as_bytes.ensures.value)
    ∙ sym (c.new.ensures ∙ c.in_ok-bytes.ensures)
    )
