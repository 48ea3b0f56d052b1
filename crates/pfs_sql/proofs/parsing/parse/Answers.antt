use Rattle.std.proofs.lemmas.Result.{err_from_is_err_and}
use Rattle.pfs_sql.proofs.SaidCommands.{says, not_spelled}
use Rattle.pfs_sql.proofs.parsing.parse.Goals as goal

pub returns-in_err-command-clause-refused : goal.returns-in_err-command-clause-refused
returns-in_err-command-clause-refused c =
    let p = err_from_is_err_and c.from_residual-in_err-command.result c.from_residual-in_err-command.ensures.1 in
    rw (p.1, p.2) (not_spelled c.in_err-command.field-0.0 c.args.text.now c.in_ok-tokens.tokens.items c.in_ok-tokens.ensures
    (rw c.deref.ensures.value at c.in_err-command.ensures))

pub returns-clause-said : goal.returns-clause-said
returns-clause-said c = says c.args.text.now c.in_ok-tokens.tokens.items c.in_ok-command.command c.in_ok-tokens.ensures
    (rw c.deref.ensures.value at c.in_ok-command.ensures)
