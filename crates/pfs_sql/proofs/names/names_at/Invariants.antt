use Rattle.std.proofs.Common.{length}
use Rattle.pfs_sql.specs.TokenWords.{is_comma}
use Rattle.pfs_sql.specs.TokenReaders.{name_at, many}
use Rattle.pfs_sql.proofs.ItemLists.{Reads}
use Rattle.pfs_sql.proofs.names.names_at.Given as goal

abbrev pub invariant-items : goal.invariant-items
invariant-items l = Reads is_comma name_at (many is_comma name_at (length l.tokens) l.tokens) l.names.items l.rest

abbrev pub decreases-items : goal.decreases-items
decreases-items l = length l.rest
