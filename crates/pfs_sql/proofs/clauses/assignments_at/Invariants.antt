use Rattle.std.proofs.Common.{length}
use Rattle.pfs_sql.specs.TokenWords.{is_comma}
use Rattle.pfs_sql.specs.TokenReaders.{assignment_at, many}
use Rattle.pfs_sql.proofs.ItemLists.{Reads}
use Rattle.pfs_sql.proofs.clauses.assignments_at.Given as goal

abbrev pub invariant-items : goal.invariant-items
invariant-items l = Reads is_comma assignment_at (many is_comma assignment_at (length l.tokens) l.tokens) l.assignments.items l.rest

abbrev pub decreases-items : goal.decreases-items
decreases-items l = length l.rest
