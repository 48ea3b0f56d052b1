use Rattle.std.proofs.Common.{length, sym, ◌∙◌, ap}
use Rattle.std.proofs.lemmas.Result.{err_from_is_err_and}
use Rattle.pfs_sql.specs.TokenWords.{is_comma}
use Rattle.pfs_sql.specs.TokenReaders.{assignment_at, many}
use Rattle.pfs_sql.proofs.ItemLists.{reads_more, reads_fail, reads_all}
use Rattle.pfs_sql.proofs.clauses.assignments_at.Goals as goal

pub returns-in_err-assignment : goal.returns-in_err-assignment
returns-in_err-assignment c =
    let p = err_from_is_err_and c.from_residual.result c.from_residual.ensures.1 in
    rw (p.1, p.2) (reads_fail is_comma assignment_at c.in_err-assignment.field-0.0 (many is_comma assignment_at (length c.args.tokens.now) c.args.tokens.now) c.items.assignments.items c.items.rest.now c.items.invariant c.in_err-assignment.ensures.read)

pub items-preserved : goal.items-preserved
items-preserved c =
    rw c.in_ok-push.ensures.items (reads_more is_comma assignment_at (many is_comma assignment_at (length c.args.tokens.now) c.args.tokens.now) c.items.assignments.items c.items.rest.now c.in_ok-assignment.assignment c.in_ok-assignment.behind.now c.in-Some.more.now
    c.items.invariant c.in_ok-assignment.ensures.read c.in_ok-assignment.ensures.shorter (sym c.in-Some.ensures.read))

pub returns-in-None : goal.returns-in-None
returns-in-None c =
    rw (c.new.ensures, c.in_ok-push.ensures.items) (reads_all is_comma assignment_at (many is_comma assignment_at (length c.args.tokens.now) c.args.tokens.now) c.items.assignments.items c.items.rest.now c.in_ok-assignment.assignment c.in_ok-assignment.behind.now
    c.items.invariant c.in_ok-assignment.ensures.read c.in_ok-assignment.ensures.shorter (sym c.in-None.ensures.read))
