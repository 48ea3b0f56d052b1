use Rattle.pfs_matching.proofs.OpeningRows.{pushed_four}
use Rattle.pfs_matching.proofs.object_rows.put_opening.Goals as goal

-- the four rows stand one after another
pub returns-clause-rows : goal.returns-clause-rows
returns-clause-rows c =
    pushed_four c.args.rows.now.items c.push_reserved.new.self.items c.push_reserved-2.new.self.items c.push_reserved-3.new.self.items c.push_reserved-4.new.self.items
    _ _ _ _ _ _ _ _
    c.push_reserved.ensures.items c.push_reserved-2.ensures.items c.push_reserved-3.ensures.items c.push_reserved-4.ensures.items
    c.in_ok-opening_row.ensures c.in_ok-opening_row-2.ensures c.in_ok-opening_row-3.ensures c.in_ok-opening_row-4.ensures
