use Rattle.std.proofs.Common.{◌≡◌, drop}
use Rattle.pfs_lexer.specs.QuotePairs.{more}
use Rattle.pfs_lexer.specs.Comments as spec
use Rattle.pfs_lexer.proofs.comments.comment_len.Given as goal

abbrev pub invariant-loop-at : goal.invariant-loop-at
invariant-loop-at l = more l.at (spec.comment_len (drop l.at l.bytes)) ≡ spec.comment_len l.bytes
