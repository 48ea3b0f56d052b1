use Rattle.pfs_law_summaries.specs.SummaryLaws.{IsPlainCountedRun}
use Rattle.pfs_top.specs.Commands.{HasInput, HasPlain}
use Rattle.pfs_top.specs.CommandWords.{AsksPlain}
use Rattle.pfs_top.proofs.Outcomes.{ends_as, plain_told}
use Rattle.pfs_top.proofs.commands.pfs_plain.Goals as goal

pub returns-then-is_word-clause-ends : goal.returns-then-is_word-clause-ends
returns-then-is_word-clause-ends g c =
    let words = c.args.words.now in
    let left = g.S.Source.left c.args.source.now in
    let asks : AsksPlain words = c.is_word.ensures.0 c.if-is_word.true in
    ends_as (Unit {0}) (AsksPlain words) (HasInput IsPlainCountedRun left) (HasPlain words left) _ _ _ _ c.plain.result (λ any. asks) (plain_told words left asks) c.plain.ensures.ends
