use Rattle.std.proofs.Common.{length}
use Rattle.pfs_sql.specs.TokenWords.{is_key}
use Rattle.std.specs.Prelude.{codes}
use Rattle.pfs_sql.specs.TokenReaders.{test_at, many}
use Rattle.pfs_sql.proofs.ItemLists.{Reads}
use Rattle.pfs_sql.proofs.kinds.tests_at.Given as goal

abbrev pub invariant-items : goal.invariant-items
invariant-items l = Reads (is_key (codes "and")) test_at (many (is_key (codes "and")) test_at (length l.tokens) l.tokens) l.tests.items l.rest

abbrev pub decreases-items : goal.decreases-items
decreases-items l = length l.rest
