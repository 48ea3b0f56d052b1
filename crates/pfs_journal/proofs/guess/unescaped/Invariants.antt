use Rattle.std.proofs.Common.{ℕ, List, ◌≡◌, length}
use Rattle.std.specs.List.{flat_map}
use Rattle.pfs_text.specs.QuotedTexts.{doubled}
use Rattle.pfs_journal.proofs.ItemReadings.{ItemsRead}
use Rattle.pfs_journal.proofs.guess.unescaped.Given as goal

abbrev pub invariant-loop-left : goal.invariant-loop-left
invariant-loop-left l = (text : List ℕ) → l.fn.bytes ≡ flat_map doubled text → ItemsRead doubled (λ b. Unit {0}) text l.text.items l.left

abbrev pub decreases-loop-left : goal.decreases-loop-left
decreases-loop-left l = length l.left
