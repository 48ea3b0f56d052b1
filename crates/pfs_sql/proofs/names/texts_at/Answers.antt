use Rattle.std.proofs.Common.{length, sym, ◌∙◌, ap}
use Rattle.std.proofs.lemmas.Result.{err_from_is_err_and}
use Rattle.pfs_sql.specs.TokenWords.{is_comma}
use Rattle.pfs_sql.specs.TokenReaders.{text_at, many}
use Rattle.pfs_sql.proofs.ItemLists.{reads_more, reads_fail, reads_all}
use Rattle.pfs_sql.proofs.names.texts_at.Goals as goal

pub returns-in_err-text : goal.returns-in_err-text
returns-in_err-text c =
    let p = err_from_is_err_and c.from_residual.result c.from_residual.ensures.1 in
    rw (p.1, p.2) (reads_fail is_comma text_at c.in_err-text.field-0.0 (many is_comma text_at (length c.args.tokens.now) c.args.tokens.now) c.items.texts.items c.items.rest.now c.items.invariant c.in_err-text.ensures.read)

pub items-preserved : goal.items-preserved
items-preserved c =
    rw c.in_ok-push.ensures.items (reads_more is_comma text_at (many is_comma text_at (length c.args.tokens.now) c.args.tokens.now) c.items.texts.items c.items.rest.now c.in_ok-text.text c.in_ok-text.behind.now c.in-Some.more.now
    c.items.invariant c.in_ok-text.ensures.read c.in_ok-text.ensures.shorter (sym c.in-Some.ensures.read))

pub returns-in-None : goal.returns-in-None
returns-in-None c =
    rw (c.new.ensures, c.in_ok-push.ensures.items) (reads_all is_comma text_at (many is_comma text_at (length c.args.tokens.now) c.args.tokens.now) c.items.texts.items c.items.rest.now c.in_ok-text.text c.in_ok-text.behind.now
    c.items.invariant c.in_ok-text.ensures.read c.in_ok-text.ensures.shorter (sym c.in-None.ensures.read))
