use Rattle.std.specs.Prelude.{[]}
use Rattle.pfs_model.specs.Chains.{row_change}
use Rattle.pfs_check_floors.specs.RowNames.{rows_shown}
use Rattle.pfs_check_ends.proofs.ShownEnds.{row_free, row_whole}
use Rattle.pfs_check_ends.proofs.ends.Ends.row_at.Goals as goal

pub returns-then-is_free : goal.returns-then-is_free
returns-then-is_free c = λ shown s.
    let v = c.had-version.ensures row_change rows_shown s.all [] s.sights.sights_are.rows.floors in
    row_free c.args.self.now shown s c.args.phase c.args.row c.had-version.result v c.is_free.result c.is_free.ensures c.free_word.result c.if-is_free.true c.free_word.ensures

pub returns : goal.returns
returns c = λ shown s.
    let v = c.had-version.ensures row_change rows_shown s.all [] s.sights.sights_are.rows.floors in
    row_whole c.args.self.now shown s c.args.phase c.args.row c.had-version.result v c.is_free.result c.is_free.ensures c.content.result c.if-is_free.false c.content.ensures
