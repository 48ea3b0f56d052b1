use Rattle.std.proofs.Common.{◌≡◌, ◌++◌, take}
use Rattle.std.specs.List.{flat_map}
use Rattle.pfs_html.specs.Journals.{entry_html}
use Rattle.pfs_html.proofs.journals.put_entries.Given as goal

abbrev pub invariant-loop-at : goal.invariant-loop-at
invariant-loop-at l = l.pen.page.items ≡ l.initial.pen.page.items ++ flat_map entry_html (take l.at l.entries)
