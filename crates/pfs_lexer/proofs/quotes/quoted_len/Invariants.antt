use Rattle.std.proofs.Common.{◌≡◌, ◌-◌, ◌≤◌, drop, length}
use Rattle.pfs_lexer.specs.QuotePairs as spec
use Rattle.pfs_lexer.proofs.quotes.quoted_len.Given as goal

abbrev pub invariant-bytes : goal.invariant-bytes
invariant-bytes l = (spec.more l.at (spec.quoted_len l.quote (drop l.at l.bytes)) ≡ spec.quoted_len l.quote l.bytes) × (l.at ≤ length l.bytes)

abbrev pub decreases-bytes : goal.decreases-bytes
decreases-bytes l = length l.bytes - l.at
