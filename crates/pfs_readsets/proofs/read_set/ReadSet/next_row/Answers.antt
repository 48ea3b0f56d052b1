use Rattle.std.proofs.Common.{◌∙◌, sym, arith}
use Rattle.pfs_readsets.specs.ReadProgress.{own_rows}
use Rattle.pfs_readsets.proofs.SkippedNumbers.{skip_many}
use Rattle.pfs_readsets.proofs.TestedNumbers.{take_to, none_to}
use Rattle.pfs_readsets.proofs.read_set.ReadSet.next_row.Goals as goal

pub returns-then-reads_row : goal.returns-then-reads_row
returns-then-reads_row c =
    (_, c.loop-row.invariant ∙ take_to (own_rows c.args.self.now) c.loop-row.row 14242 c.loop-row-test.true (sym c.reads_row.ensures ∙ c.if-reads_row.true))

pub loop-row-preserved : goal.loop-row-preserved
loop-row-preserved c =
    let p = c.passes_over-row.ensures in
    c.loop-row.invariant ∙ skip_many (own_rows c.args.self.now) c.loop-row.row c.passes_over-row.result 14242 p.within p.none

pub returns : goal.returns
returns c = c.loop-row.invariant ∙ none_to (own_rows c.args.self.now) c.loop-row.row 14242 (omega (arith, c.loop-row-test.false))
