use Rattle.std.proofs.Common.{◌∙◌, sym, arith}
use Rattle.pfs_readsets.specs.ReadProgress.{own_words}
use Rattle.pfs_readsets.proofs.TestedNumbers.{skip_to, take_to, none_to}
use Rattle.pfs_readsets.proofs.read_set.ReadSet.next_word.Goals as goal

pub returns-then-reads_word : goal.returns-then-reads_word
returns-then-reads_word c =
    (_, c.loop-word.invariant ∙ take_to (own_words c.args.self.now) c.loop-word.word 160 (omega arith) (sym c.reads_word.ensures ∙ c.if-reads_word.true))

pub loop-word-preserved : goal.loop-word-preserved
loop-word-preserved c =
    c.loop-word.invariant ∙ skip_to (own_words c.args.self.now) c.loop-word.word 160 (omega arith) (sym c.reads_word.ensures ∙ c.if-reads_word.false)

pub returns : goal.returns
returns c = c.loop-word.invariant ∙ none_to (own_words c.args.self.now) c.loop-word.word 160 (omega arith)
