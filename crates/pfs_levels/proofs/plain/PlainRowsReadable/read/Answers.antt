use Rattle.std.proofs.Common.{sym, ◌∙◌}
use Rattle.pfs_levels.proofs.PlainCalls.{at_whole, at_vacant}
use Rattle.pfs_levels.proofs.plain.PlainRowsReadable.read.Goals as goal

pub returns-then-is_allocated-clause-call : goal.returns-then-is_allocated-clause-call
returns-then-is_allocated-clause-call c = λ start calls at. at_whole _ _ _ start.flags calls c.args.row c.version-version.result c.content-content.result.now c.requires.known (sym c.is_allocated.ensures ∙ c.if-is_allocated.true) c.version-version.ensures c.content-content.ensures at

pub returns-else-is_allocated-clause-call : goal.returns-else-is_allocated-clause-call
returns-else-is_allocated-clause-call c = λ start calls at. at_vacant _ _ _ start.flags calls c.args.row c.version-version.result c.requires.known (sym c.is_allocated.ensures ∙ c.if-is_allocated.false) c.version-version.ensures at
