use Rattle.std.proofs.Common.{length, sym, ◌∙◌, ap}
use Rattle.std.proofs.lemmas.Result.{err_from_is_err_and}
use Rattle.pfs_sql.specs.TokenWords.{is_comma}
use Rattle.pfs_sql.specs.TokenReaders.{order_item_at, many}
use Rattle.pfs_sql.proofs.ItemLists.{reads_more, reads_fail, reads_all}
use Rattle.pfs_sql.proofs.clauses.order_items_at.Goals as goal

pub returns-in_err-item : goal.returns-in_err-item
returns-in_err-item c =
    let p = err_from_is_err_and c.from_residual.result c.from_residual.ensures.1 in
    rw (p.1, p.2) (reads_fail is_comma order_item_at c.in_err-item.field-0.0 (many is_comma order_item_at (length c.args.tokens.now) c.args.tokens.now) c.items.items.items c.items.rest.now c.items.invariant c.in_err-item.ensures.read)

pub items-preserved : goal.items-preserved
items-preserved c =
    rw c.in_ok-push.ensures.items (reads_more is_comma order_item_at (many is_comma order_item_at (length c.args.tokens.now) c.args.tokens.now) c.items.items.items c.items.rest.now c.in_ok-item.item c.in_ok-item.behind.now c.in-Some.more.now
    c.items.invariant c.in_ok-item.ensures.read c.in_ok-item.ensures.shorter (sym c.in-Some.ensures.read))

pub returns-in-None : goal.returns-in-None
returns-in-None c =
    rw (c.new.ensures, c.in_ok-push.ensures.items) (reads_all is_comma order_item_at (many is_comma order_item_at (length c.args.tokens.now) c.args.tokens.now) c.items.items.items c.items.rest.now c.in_ok-item.item c.in_ok-item.behind.now
    c.items.invariant c.in_ok-item.ensures.read c.in_ok-item.ensures.shorter (sym c.in-None.ensures.read))
