use Rattle.std.proofs.Common.{◌≡◌, [], reverse, length}
use Rattle.pfs_lexer.specs.TextItems.{items_of}
use Rattle.pfs_digest.specs.Stack.{finished}
use Rattle.pfs_digest.proofs.digests.reduced.Given as goal

abbrev pub invariant-tokens : goal.invariant-tokens
invariant-tokens l = finished l.text (reverse l.stack.items) l.lexer ≡ finished l.text [] (items_of l.text)

abbrev pub decreases-tokens : goal.decreases-tokens
decreases-tokens l = length l.lexer
