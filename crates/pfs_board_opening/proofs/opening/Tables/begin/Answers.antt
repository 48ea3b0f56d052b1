use Rattle.std.proofs.Common.{[], arith}
use Rattle.pfs_admin.specs.OpeningState.{opening_flags}
use Rattle.pfs_matching.specs.ObjectRules.{opening_objects}
use Rattle.pfs_board_opening.proofs.OpenedTables.{root_is, settled_first, words_wide}
use Rattle.pfs_board_opening.proofs.opening.Tables.begin.Goals as goal

pub new-root-requires-clause-sizes : goal.new-root-requires-clause-sizes
new-root-requires-clause-sizes g c = (omega (arith, c.requires.rows.long), words_wide g.N.Named.setting opening_objects c.args.self.now.switches.start c.requires.flags)

pub returns-clause-settled : goal.returns-clause-settled
returns-clause-settled g c =
    let tables = c.args.self.now in
    let e = c.new-root.ensures in
    settled_first g.N.Named.setting g.N.Named.change (opening_flags g.N.Named.setting opening_objects) g.N.Shared.switches tables.board tables.switches tables.tickets _ _ _
    (root_is tables.board tables.switches tables.tickets c.new-root.result e.board.0 e.words.0 e.tickets.0 e.board.1 e.words.1 e.tickets.1) (c.settle.ensures.settled [] e.gathered tt)
