use Rattle.std.proofs.Common.{length, ◌-◌, ◌≡◌, ◌≤◌, drop}
use Rattle.pfs_lexer.specs.TextItems.{items_from}
use Rattle.pfs_lexer.proofs.reading.item_from.Given as goal

abbrev pub invariant-blanks : goal.invariant-blanks
invariant-blanks l = (items_from l.from 0 (drop l.from l.text) ≡ items_from l.place 0 (drop l.place l.text)) × (l.place ≤ length l.text)

abbrev pub decreases-blanks : goal.decreases-blanks
decreases-blanks l = length l.text - l.place
