use Rattle.std.proofs.Common.{◌≡◌, ◌<◌, ◌∙◌, sym, arith}
use Rattle.pfs_board_opening.specs.FirstRows.{first_row}
use Rattle.pfs_board_opening.proofs.FirstRows.{first_long, row_is}
use Rattle.pfs_board_opening.proofs.rows.FirstRowsOpenings.row.Goals as goal

pub first_row-requires : goal.first_row-requires
first_row-requires c = omega (arith, c.requires, first_long)

pub returns : goal.returns
returns c =
    let low : c.args.at < 14242 = omega (arith, c.requires, first_long) in
    let made : c.first_row.result ≡ first_row c.args.at = λ i. record { allocated = c.first_row.ensures.0 i; content = c.first_row.ensures.1 i } in
    made ∙ sym (row_is c.args.at low)
