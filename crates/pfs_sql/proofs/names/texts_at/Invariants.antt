use Rattle.std.proofs.Common.{length}
use Rattle.pfs_sql.specs.TokenWords.{is_comma}
use Rattle.pfs_sql.specs.TokenReaders.{text_at, many}
use Rattle.pfs_sql.proofs.ItemLists.{Reads}
use Rattle.pfs_sql.proofs.names.texts_at.Given as goal

abbrev pub invariant-items : goal.invariant-items
invariant-items l = Reads is_comma text_at (many is_comma text_at (length l.tokens) l.tokens) l.texts.items l.rest

abbrev pub decreases-items : goal.decreases-items
decreases-items l = length l.rest
