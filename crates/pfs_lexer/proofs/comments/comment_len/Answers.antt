use Rattle.std.proofs.Common.{◌+◌, nat_eq, sym, ap, ◌∙◌, arith}
use Rattle.std.specs.Prelude.{codes}
use Rattle.std.specs.List.{starts_with}
use Rattle.std.proofs.lemmas.List.{take_rest}
use Rattle.pfs_lexer.specs.QuotePairs.{more}
use Rattle.pfs_lexer.proofs.QuoteSteps.{step-close, step-on, comment-past, more-to}
use Rattle.pfs_lexer.proofs.comments.comment_len.Goals as goal

pub returns-then-starts_with-clause-len : goal.returns-then-starts_with-clause-len
returns-then-starts_with-clause-len c =
    let test = ap (λ r. starts_with nat_eq r (codes "*/")) (sym (take_rest c.args.bytes.now c.loop-at.at)) ∙ sym c.if-starts_with.ensures.value in
    ap (more c.loop-at.at) (sym (step-close c.args.bytes.now c.loop-at.at (omega arith) test)) ∙ c.loop-at.invariant

pub loop-at-preserved : goal.loop-at-preserved
loop-at-preserved c =
    let test = ap (λ r. starts_with nat_eq r (codes "*/")) (sym (take_rest c.args.bytes.now c.loop-at.at)) ∙ sym c.if-starts_with.ensures.value in
    sym (more-to c.loop-at.at 1 (c.loop-at.at + 1) _ (omega arith))
    ∙ ap (more c.loop-at.at) (sym (step-on c.args.bytes.now c.loop-at.at (omega arith) test)) ∙ c.loop-at.invariant

pub returns-clause-len : goal.returns-clause-len
returns-clause-len c = ap (more c.loop-at.at) (sym (comment-past c.args.bytes.now c.loop-at.at (omega arith))) ∙ c.loop-at.invariant
