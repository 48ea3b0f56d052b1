use Rattle.std.proofs.Common.{length}
use Rattle.pfs_sql.proofs.TokenCuts.{Cut}
use Rattle.pfs_sql.proofs.lexer.tokens_of.Given as goal

abbrev pub invariant-tokens : goal.invariant-tokens
invariant-tokens l = Cut l.text l.tokens.items l.rest

abbrev pub decreases-tokens : goal.decreases-tokens
decreases-tokens l = length l.rest
