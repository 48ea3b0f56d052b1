use Rattle.std.proofs.Common.{length, sym, ◌∙◌, ap}
use Rattle.std.proofs.lemmas.Result.{err_from_is_err_and}
use Rattle.pfs_sql.specs.TokenWords.{is_comma}
use Rattle.pfs_sql.specs.TokenReaders.{name_at, many}
use Rattle.pfs_sql.proofs.ItemLists.{reads_more, reads_fail, reads_all}
use Rattle.pfs_sql.proofs.names.names_at.Goals as goal

pub returns-in_err-name : goal.returns-in_err-name
returns-in_err-name c =
    let p = err_from_is_err_and c.from_residual.result c.from_residual.ensures.1 in
    rw (p.1, p.2) (reads_fail is_comma name_at c.in_err-name.field-0.0 (many is_comma name_at (length c.args.tokens.now) c.args.tokens.now) c.items.names.items c.items.rest.now c.items.invariant c.in_err-name.ensures.read)

pub items-preserved : goal.items-preserved
items-preserved c =
    rw c.in_ok-push.ensures.items (reads_more is_comma name_at (many is_comma name_at (length c.args.tokens.now) c.args.tokens.now) c.items.names.items c.items.rest.now c.in_ok-name.name c.in_ok-name.behind.now c.in-Some.more.now
    c.items.invariant c.in_ok-name.ensures.read c.in_ok-name.ensures.shorter (sym c.in-Some.ensures.read))

pub returns-in-None : goal.returns-in-None
returns-in-None c =
    rw (c.new.ensures, c.in_ok-push.ensures.items) (reads_all is_comma name_at (many is_comma name_at (length c.args.tokens.now) c.args.tokens.now) c.items.names.items c.items.rest.now c.in_ok-name.name c.in_ok-name.behind.now
    c.items.invariant c.in_ok-name.ensures.read c.in_ok-name.ensures.shorter (sym c.in-None.ensures.read))
