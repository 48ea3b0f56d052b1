use Rattle.std.proofs.Common.{arith, sym, ap}
use Rattle.std.proofs.lemmas.Bool.{eqb-true}
use Rattle.std.proofs.lemmas.Result.{err_from_is_err_and}
use Rattle.pfs_sql.proofs.TokenCuts.{cut_more, cut_fails, cut_all, refused, some_left}
use Rattle.pfs_sql.proofs.lexer.tokens_of.Goals as goal

pub returns-in_err-token : goal.returns-in_err-token
returns-in_err-token c =
    let p = err_from_is_err_and c.from_residual.result c.from_residual.ensures.1 in
    rw (p.1, p.2) (refused c.in_err-token.field-0.0 c.args.text.now c.tokens.tokens.items c.tokens.rest.now c.tokens.invariant (some_left _ (sym (c.tokens-test.ensures))) c.in_err-token.ensures.read)

pub tokens-preserved : goal.tokens-preserved
tokens-preserved c =
    rw (c.in_ok-push.ensures.items, c.skip_blanks-rest-in-tokens.ensures.skipped)
    (cut_more c.args.text.now c.tokens.tokens.items c.tokens.rest.now c.in_ok-token.token c.in_ok-token.after.now c.tokens.invariant c.in_ok-token.ensures.read)

pub returns : goal.returns
returns c = cut_all c.args.text.now c.tokens.tokens.items c.tokens.rest.now c.tokens.invariant (eqb-true _ 0 (sym (c.tokens-test.ensures)))
