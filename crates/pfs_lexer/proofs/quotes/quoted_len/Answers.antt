use Rattle.std.proofs.Common.{◌+◌, sym, ap, ◌∙◌, arith}
use Rattle.pfs_lexer.specs.QuotePairs.{more}
use Rattle.pfs_lexer.proofs.QuoteSteps.{step-pair, step-end, step-other, quoted-past, more-to, pair-within}
use Rattle.pfs_lexer.proofs.quotes.quoted_len.Goals as goal

pub bytes-preserved-then-pair_at : goal.bytes-preserved-then-pair_at
bytes-preserved-then-pair_at c = (
  sym (more-to c.bytes.at 2 (c.bytes.at + 2) _ (omega arith))
      ∙ ap (more c.bytes.at) (sym (step-pair c.args.quote c.args.bytes.now c.bytes.at (sym c.if-pair_at.ensures))) ∙ c.bytes.invariant.0,
  omega (arith, pair-within c.args.quote c.args.bytes.now c.bytes.at (sym c.if-pair_at.ensures)),
)

pub returns-then-bytes-at-clause-len : goal.returns-then-bytes-at-clause-len
returns-then-bytes-at-clause-len c =
    ap (more c.bytes.at) (sym (step-end c.args.quote c.args.bytes.now c.bytes.at (omega arith) (sym c.if-pair_at.ensures) c.if-bytes-at.true)) ∙ c.bytes.invariant.0

pub bytes-preserved : goal.bytes-preserved
bytes-preserved c = (
  sym (more-to c.bytes.at 1 (c.bytes.at + 1) _ (omega arith))
      ∙ ap (more c.bytes.at) (sym (step-other c.args.quote c.args.bytes.now c.bytes.at (omega arith) (sym c.if-pair_at.ensures) c.if-bytes-at.false)) ∙ c.bytes.invariant.0,
  omega arith,
)

pub returns-clause-len : goal.returns-clause-len
returns-clause-len c = ap (more c.bytes.at) (sym (quoted-past c.args.quote c.args.bytes.now c.bytes.at (omega arith))) ∙ c.bytes.invariant.0
