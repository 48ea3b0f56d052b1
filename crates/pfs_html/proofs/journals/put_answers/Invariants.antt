use Rattle.std.proofs.Common.{◌≡◌, ◌++◌}
use Rattle.std.specs.List.{flat_map}
use Rattle.pfs_html.specs.Journals.{answer_html}
use Rattle.pfs_html.specs.Cells.{places_below}
use Rattle.pfs_html.proofs.journals.put_answers.Given as goal

abbrev pub invariant-loop-place : goal.invariant-loop-place
invariant-loop-place l = l.pen.page.items ≡ l.initial.pen.page.items ++ flat_map (answer_html l.answers) (places_below l.place)
