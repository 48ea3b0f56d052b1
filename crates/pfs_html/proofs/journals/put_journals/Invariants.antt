use Rattle.std.proofs.Common.{◌≡◌, ◌++◌, take}
use Rattle.std.specs.List.{flat_map}
use Rattle.pfs_html.specs.Journals.{journal_html}
use Rattle.pfs_html.proofs.journals.put_journals.Given as goal

abbrev pub invariant-loop-block : goal.invariant-loop-block
invariant-loop-block l = l.pen.page.items ≡ l.initial.pen.page.items ++ flat_map journal_html (take l.block-index l.blocks)
