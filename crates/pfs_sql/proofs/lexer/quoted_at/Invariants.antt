use Rattle.std.proofs.Common.{◌≡◌, ◌≤◌, length}
use Rattle.pfs_sql.specs.TextCuts.{inside_of, with_text}
use Rattle.pfs_sql.proofs.lexer.quoted_at.Given as goal

abbrev pub invariant-bytes : goal.invariant-bytes
invariant-bytes l = record { same : with_text l.text.items (inside_of l.rest) ≡ inside_of l.bytes; within : length l.rest ≤ length l.bytes }

abbrev pub decreases-bytes : goal.decreases-bytes
decreases-bytes l = length l.rest
