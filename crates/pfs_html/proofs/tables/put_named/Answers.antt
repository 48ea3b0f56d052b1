use Rattle.std.proofs.Common.{◌≡◌, ◌++◌, ℕ, List, subst}
use Rattle.std.specs.Prelude.{OnOk}
use Rattle.pfs_text.specs.declared.values.RowValue.{RowValue}
use Rattle.pfs_view.specs.ShownReports.{headings_of}
use Rattle.pfs_view.specs.declared.columns.Headings.{Headings}
use Rattle.pfs_html.specs.Tables.{folded_html, named_html}
use Rattle.pfs_html.proofs.tables.put_named.Goals as goal

pub returns : goal.returns
unfolding named_html
returns c =
    let now = c.put_folded.new.pen.page.items in
    let old = c.args.pen.now.page.items in
    let table = c.args.table.now in
    subst (λ (rows : List (List RowValue)). OnOk c.put_folded.result (now ≡ old ++ folded_html table.name (headings_of table.name) rows)) c.as_slice.ensures
    (subst (λ (name : List ℕ). OnOk c.put_folded.result (now ≡ old ++ folded_html name (headings_of name) c.as_slice.result.now)) c.as_bytes-name.ensures
    (subst (λ (h : Headings). OnOk c.put_folded.result (now ≡ old ++ folded_html c.as_bytes-name.result.now h c.as_slice.result.now)) c.headings_of.ensures c.put_folded.ensures))
